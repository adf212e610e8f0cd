-- Patterns that match the same names; the code builds one with fewer wildcards.

use Rattle.std.specs.Prelude.{◌≡◌, ℕ, Bool, false, List, [], ◌∷◌, ◌++◌, map}
use Rattle.std.specs.Char.{to_ascii_uppercase}
use Rattle.imap_query.specs.PatternRows.{is_match, is_wildcard}

-- Two patterns match the same names.
abbrev pub MatchSameNames : List ℕ → List ℕ → Type 0
MatchSameNames pattern other = (name : List ℕ) → is_match other name ≡ is_match pattern name

-- `plain` matches the same names as the pattern, `capitals` the same as the pattern in capitals.
pub record ArePatternForms (pattern plain capitals : List ℕ) : Type 0 where
  pub plain_alike : MatchSameNames pattern plain
  pub capitals_alike : MatchSameNames (map to_ascii_uppercase pattern) capitals

-- Whatever follows, the new pattern matches the same names as the old one with this octet
-- appended.
abbrev pub IsPatternAppended : ℕ → List ℕ → List ℕ → Type 0
IsPatternAppended octet old new =
    (rest : List ℕ) → MatchSameNames (old ++ octet ∷ rest) (new ++ rest)

-- Whether a pattern ends with a wildcard.
abbrev pub ends_with_wildcard : List ℕ → Bool
ends_with_wildcard [] = false
ends_with_wildcard (octet ∷ []) = is_wildcard octet
ends_with_wildcard (octet ∷ next ∷ rest) = ends_with_wildcard (next ∷ rest)
