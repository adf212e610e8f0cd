-- The order of octet strings, in which lists of names and keywords ascend.

use Rattle.std.specs.Prelude.{◌≡◌, ℕ, List, [], ◌∷◌}
use Rattle.std.specs.Cmp.Lexicographic.{slice_cmp}
use Rattle.std.specs.Ordering.{nat_cmp}
use Rattle.std.specs.declared.cmp.Ordering.{Ordering}
use Rattle.std.specs.declared.cmp.Ordering.TheVariants.{Less}

-- The order of two octet strings: by the first octet that differs; a proper prefix is before the
-- whole.
abbrev pub octet_order : List ℕ → List ℕ → Ordering
octet_order a b = slice_cmp nat_cmp a b

-- The first octet string comes before the second.
abbrev pub IsBefore : List ℕ → List ℕ → Type 0
IsBefore a b = octet_order a b ≡ Less

-- Octet strings that ascend strictly.
abbrev pub AreAscending : List (List ℕ) → Type 0
AreAscending [] = Unit {0}
AreAscending (a ∷ []) = Unit {0}
AreAscending (a ∷ b ∷ rest) = IsBefore a b × AreAscending (b ∷ rest)
