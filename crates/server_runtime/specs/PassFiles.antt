-- The password that a file has: its first line.

use Rattle.std.specs.Prelude.{◌≡◌, ◌⊎◌, ◌<◌, ◌≤◌, ℕ, List, length, slice_index, take}
use Rattle.std.specs.Str.{IsUtf8}

-- The octet ends a line: CR (13) or LF (10).
abbrev pub EndsLine : ℕ → Type 0
EndsLine octet = (octet ≡ 13) ⊎ (octet ≡ 10)

-- The first line has this many octets: those before the first CR or LF, or all.
abbrev pub IsLineEnd : List ℕ → ℕ → Type 0
IsLineEnd octets end =
    (end ≤ length octets)
    × ((place : ℕ) → place < end → EndsLine (slice_index octets place) → ⊥)
    × ((end ≡ length octets) ⊎ EndsLine (slice_index octets end))

-- The password of a file with these octets: its first line, if that has 1 to 1,024 octets and is
-- UTF-8.
abbrev pub IsPass : List ℕ → List ℕ → Type 0
IsPass octets pass =
    (end : ℕ)
    × IsLineEnd octets end
    × (0 < end)
    × (end ≤ 1024)
    × (pass ≡ take end octets)
    × IsUtf8 pass
