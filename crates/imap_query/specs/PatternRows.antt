-- Matching as the code computes it, row by row; proofs/RowLemmas and proofs/MatchLemmas tie it to
-- Patterns.

use Rattle.std.specs.Prelude.{ℕ, Bool, true, false, not, ◌&&◌, ◌||◌, ◌==◌, List, [], ◌∷◌}
use Rattle.std.specs.Prelude.{if◌then◌else◌}
use Rattle.std.specs.List.{list_all}
use Rattle.imap_query.specs.Patterns.{pattern_for}
use Rattle.imap_types.specs.Names.{fold_inbox}

-- Whether an octet of a pattern is a wildcard, `*` (42) or `%` (37).
abbrev pub is_wildcard : ℕ → Bool
is_wildcard octet = (octet == 42) || (octet == 37)

-- Whether a text that a wildcard matches may contain an octet: `%` (37) matches no separator `/`
-- (47).
abbrev pub may_hold : ℕ → ℕ → Bool
may_hold wildcard octet = (wildcard == 42) || not (octet == 47)

-- Whether a name is a text that a wildcard matches and then one that a test accepts.
abbrev pub after_wildcard : (List ℕ → Bool) → ℕ → List ℕ → Bool
after_wildcard accepts wildcard [] = accepts []
after_wildcard accepts wildcard (octet ∷ name) =
    accepts (octet ∷ name) || (may_hold wildcard octet && after_wildcard accepts wildcard name)

-- Whether a name is an octet and then a text that a test accepts.
abbrev pub after_octet : (List ℕ → Bool) → ℕ → List ℕ → Bool
after_octet accepts literal [] = false
after_octet accepts literal (octet ∷ name) = (octet == literal) && accepts name

-- Whether a pattern matches a name.
abbrev pub is_match : List ℕ → List ℕ → Bool
is_match [] [] = true
is_match [] (octet ∷ name) = false
is_match (octet ∷ pattern) name =
    if is_wildcard octet then after_wildcard (is_match pattern) octet name
    else after_octet (is_match pattern) octet name

-- Whether a pattern matches a name, INBOX in any letter case.
abbrev pub is_shown : List ℕ → List ℕ → Bool
is_shown pattern name = is_match (pattern_for name pattern) (fold_inbox name)

-- Whether the pattern read so far with one more octet matches a prefix of the name with one more
-- octet, from the answers without both added octets (`before`), without the name's (`made`) and
-- without the pattern's (`here`).
abbrev pub cell : ℕ → ℕ → Bool → Bool → Bool → Bool
cell octet letter before made here =
    if is_wildcard octet then here || (made && may_hold octet letter)
    else before && (letter == octet)

-- The answers for all longer prefixes of the name.
abbrev pub cells : ℕ → Bool → Bool → List Bool → List ℕ → List Bool
cells octet before made [] name = []
cells octet before made (here ∷ row) [] = []
cells octet before made (here ∷ row) (letter ∷ name) =
    cell octet letter before made here
    ∷ cells octet here (cell octet letter before made here) row name

-- The last of the answers, which is that for the whole name.
abbrev pub last_of : Bool → List Bool → Bool
last_of first [] = first
last_of first (here ∷ row) = last_of here row

-- The answer for the whole name after the rest of the pattern is read.
abbrev pub answer_after : List ℕ → Bool → List Bool → List ℕ → Bool
answer_after [] first row name = last_of first row
answer_after (octet ∷ pattern) first row name =
    answer_after pattern (is_wildcard octet && first)
    (cells octet first (is_wildcard octet && first) row name) name

-- Whether all of the answers are no.
abbrev pub is_unset : Bool → List Bool → Bool
is_unset first row = not first && list_all not row
