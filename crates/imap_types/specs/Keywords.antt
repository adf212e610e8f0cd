-- Sets of keywords, and the octets of atoms, unquoted strings and tags (RFC 9051, sections 2.3.2
-- and 9).

use Rattle.std.specs.Prelude.{ℕ, Bool, true, not, ◌&&◌, ◌||◌, ◌==◌, nat_lt, List, [], ◌∷◌, length}
use Rattle.std.specs.Prelude.{map, IsTrue}
use Rattle.std.specs.List.{list_all, list_any}
use Rattle.std.specs.Char.{to_ascii_lowercase}
use Rattle.std.specs.Ordering.{is_lt, match_ordering}
use Rattle.std.specs.Str.{bytes_eq}
use Rattle.imap_types.specs.Ascending.{octet_order, AreAscending}

-- A text in lower case (only ASCII letters change).
abbrev pub to_lower_case : List ℕ → List ℕ
to_lower_case text = map to_ascii_lowercase text

-- Whether a text has no capital letters.
abbrev pub is_lower_case : List ℕ → Bool
is_lower_case text = bytes_eq (to_lower_case text) text

-- A set of keywords as it is stored: in lower case, ascending strictly by octets (RFC 9051, section
-- 2.3.2: keywords have no case).
abbrev pub AreKeywords : List (List ℕ) → Type 0
AreKeywords keywords = IsTrue (list_all is_lower_case keywords) × AreAscending keywords

-- Whether octet strings ascend strictly.
abbrev pub are_ascending : List (List ℕ) → Bool
are_ascending [] = true
are_ascending (a ∷ []) = true
are_ascending (a ∷ b ∷ rest) = is_lt (octet_order a b) && are_ascending (b ∷ rest)

-- Whether texts are a set of keywords as it is stored.
abbrev pub are_keywords : List (List ℕ) → Bool
are_keywords texts = list_all is_lower_case texts && are_ascending texts

-- An ascending list with the text inserted, unless the list has it already.
abbrev pub with_word : List ℕ → List (List ℕ) → List (List ℕ)
with_word text [] = text ∷ []
with_word text (next ∷ texts) =
    match_ordering (octet_order text next) (text ∷ next ∷ texts) (next ∷ texts)
    (next ∷ with_word text texts)

-- Whether a keyword is one of these, compared without case.
abbrev pub has_keyword : List ℕ → List (List ℕ) → Bool
has_keyword keyword keywords =
    list_any (λ other. bytes_eq (to_lower_case other) (to_lower_case keyword)) keywords

-- An octet of an atom (RFC 9051, section 9, ATOM-CHAR): from 33 to 126, none of `( ) { % * " \ ]`.
abbrev pub is_atom_octet : ℕ → Bool
is_atom_octet octet =
    not (nat_lt octet 33) && nat_lt octet 127
    && not ((octet == 40) || (octet == 41) || (octet == 123) || (octet == 37) || (octet == 42)
    || (octet == 34) || (octet == 92) || (octet == 93))

-- An octet of an unquoted string: one of an atom, or `]` (RFC 9051, section 9, ASTRING-CHAR).
abbrev pub is_astring_octet : ℕ → Bool
is_astring_octet octet = is_atom_octet octet || (octet == 93)

-- An octet of a tag: one of an unquoted string other than `+` (43) (RFC 9051, section 9, tag).
abbrev pub is_tag_octet : ℕ → Bool
is_tag_octet octet = is_astring_octet octet && not (octet == 43)

-- Whether a message may have a keyword: 1 to 64 atom octets (the bound is the project's own).
abbrev pub is_lawful_keyword : List ℕ → Bool
is_lawful_keyword keyword =
    not (length keyword == 0) && not (nat_lt 64 (length keyword)) && list_all is_atom_octet keyword
