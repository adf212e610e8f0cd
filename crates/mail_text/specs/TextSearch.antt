-- Words in texts and in header fields, as SEARCH looks for them (RFC 9051, section 6.4.4).

use Rattle.std.specs.Prelude.{ℕ, Bool, ◌&&◌, ◌||◌, ◌==◌, List, [], ◌∷◌, length, take}
use Rattle.std.specs.Prelude.{Option, Some, None, if◌then◌else◌}
use Rattle.std.specs.List.{concat, list_any}
use Rattle.std.specs.Str.{bytes_eq}
use Rattle.imap_types.specs.Keywords.{to_lower_case}
use Rattle.mail_text.specs.HeaderFields.{field_lines, fields_in, first_asked, has_requested_name}
use Rattle.mail_text.specs.TextLines.{lines_of}

-- Whether a text begins with a word, compared without case.
abbrev pub is_prefix : List ℕ → List ℕ → Bool
is_prefix word text = bytes_eq (to_lower_case (take (length word) text)) (to_lower_case word)

-- Whether a word occurs at some place of a text, compared without case. The text's end is a place
-- too.
abbrev pub occurs_in : List ℕ → List ℕ → Bool
occurs_in word [] = is_prefix word []
occurs_in word (octet ∷ octets) = is_prefix word (octet ∷ octets) || occurs_in word octets

-- The octets after the first colon.
abbrev pub after_colon : List ℕ → List ℕ
after_colon [] = []
after_colon (octet ∷ octets) = if octet == 58 then octets else after_colon octets

-- Whether a field, given as its lines, has this name and contains a word after its first colon.
abbrev pub field_holds : List ℕ → List ℕ → List (List ℕ) → Bool
field_holds name word field =
    first_asked (has_requested_name (name ∷ [])) field
    && occurs_in word (after_colon (concat field))

-- Whether a field of this name in a text's header contains a word (RFC 9051, section 6.4.4,
-- HEADER).
abbrev pub any_field_holds : List ℕ → List ℕ → List ℕ → Bool
any_field_holds name word text =
    list_any (field_holds name word) (fields_in (field_lines (lines_of text)))

-- What follows the first colon of the first field with this name, if there is one.
abbrev pub first_value : List ℕ → List (List (List ℕ)) → Option (List ℕ)
first_value name [] = None
first_value name (field ∷ fields) =
    if first_asked (has_requested_name (name ∷ [])) field then Some (after_colon (concat field))
    else first_value name fields

-- The value of the first field with this name in a text's header (RFC 5322, section 2.2).
abbrev pub field_value : List ℕ → List ℕ → Option (List ℕ)
field_value name text = first_value name (fields_in (field_lines (lines_of text)))
