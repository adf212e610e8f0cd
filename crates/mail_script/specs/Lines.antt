-- The lines of a text, and the state of the buffer that cuts a script into lines.

use Rattle.std.specs.Prelude.{◌≡◌, ℕ, ◌-◌, ◌≤◌, ◌==◌, List, [], ◌∷◌, None, length, take, drop}
use Rattle.std.specs.Prelude.{if◌then◌else◌}
use Rattle.mail_script.specs.Reading.{cut_at}

-- Adds an octet at the start of the first line.
abbrev pub prepend_octet : ℕ → List (List ℕ) → List (List ℕ)
prepend_octet octet [] = (octet ∷ []) ∷ []
prepend_octet octet (line ∷ lines) = (octet ∷ line) ∷ lines

-- The lines of a text without their ends: each ends with LF (10), which the last may lack.
abbrev pub lines_of : List ℕ → List (List ℕ)
lines_of [] = []
lines_of (octet ∷ octets) =
    if octet == 10 then [] ∷ lines_of octets else prepend_octet octet (lines_of octets)

-- No LF (10) lies between the octets taken and the end of those searched.
pub record IsSearched (taken searched : ℕ) (octets : List ℕ) : Type 0 where
  pub taken_first : taken ≤ searched
  pub within : searched ≤ length octets
  pub no_end : cut_at 10 (take (searched - taken) (drop taken octets)) ≡ None
