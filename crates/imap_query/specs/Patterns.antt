-- Patterns of LIST and the names that they match (RFC 9051, section 6.3.9).

use Rattle.std.specs.Prelude.{◌≡◌, ◌≢◌, ℕ, Bool, ◌⊎◌, List, [], ◌∷◌, ◌++◌, map, if◌then◌else◌}
use Rattle.std.specs.Char.{to_ascii_uppercase}
use Rattle.std.specs.List.{list_any}
use Rattle.std.specs.Str.{bytes_eq}
use Rattle.imap_types.specs.Names.{fold_inbox, is_inbox}

-- A value is an element of a list.
abbrev pub IsIn : {X : Type 0} → X → List X → Type 0
IsIn value [] = ⊥
IsIn value (other ∷ others) = (other ≡ value) ⊎ IsIn value others

-- Whether a name is in a list of names.
abbrev pub is_among : List (List ℕ) → List ℕ → Bool
is_among names name = list_any (λ other. bytes_eq other name) names

-- An octet of a pattern matches a text: `*` (42) any text, `%` (37) any text without a separator
-- `/` (47), any other octet only itself (RFC 9051, section 6.3.9).
abbrev pub IsOctetMatch : ℕ → List ℕ → Type 0
IsOctetMatch octet text =
    (octet ≡ 42)
    ⊎ (((octet ≡ 37) × (¬ IsIn 47 text))
    ⊎ ((octet ≢ 42) × (octet ≢ 37) × (text ≡ octet ∷ [])))

-- A pattern matches a name: the name can be cut into pieces, one for each octet of the pattern,
-- which that octet matches (RFC 9051, section 6.3.9).
abbrev pub IsPatternMatch : List ℕ → List ℕ → Type 0
IsPatternMatch [] name = name ≡ []
IsPatternMatch (octet ∷ pattern) name =
    (front : List ℕ)
    × (rest : List ℕ)
    × (name ≡ front ++ rest)
    × IsOctetMatch octet front
    × IsPatternMatch pattern rest

-- The pattern that is compared with a name: in capitals if the name is INBOX, whose case doesn't
-- count (RFC 9051, sections 5.1 and 6.3.9).
abbrev pub pattern_for : List ℕ → List ℕ → List ℕ
pattern_for name pattern = if is_inbox name then map to_ascii_uppercase pattern else pattern

-- A pattern matches a name, with INBOX as a whole name in any letter case (RFC 9051, sections 5.1
-- and 6.3.9).
abbrev pub IsNameMatch : List ℕ → List ℕ → Type 0
IsNameMatch pattern name = IsPatternMatch (pattern_for name pattern) (fold_inbox name)
