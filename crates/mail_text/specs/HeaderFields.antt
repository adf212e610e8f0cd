-- The fields of a header, and those with given names (RFC 5322, section 2.2; RFC 9051, section
-- 6.4.5.1).

use Rattle.std.specs.Prelude.{ℕ, Bool, false, not, ◌||◌, ◌==◌, List, [], ◌∷◌, ◌++◌, Option, Some}
use Rattle.std.specs.Prelude.{None, map, option_map, if◌then◌else◌}
use Rattle.std.specs.List.{concat, filter, list_all}
use Rattle.imap_types.specs.Keywords.{has_keyword}
use Rattle.mail_text.specs.TextLines.{in_first, is_empty_line, lines_of}

-- A space or a tab.
abbrev pub is_blank : ℕ → Bool
is_blank octet = (octet == 32) || (octet == 9)

-- Whether a line continues the field before it (RFC 5322, section 2.2.3).
abbrev pub is_continuation : List ℕ → Bool
is_continuation [] = false
is_continuation (octet ∷ octets) = is_blank octet

-- Header lines as fields: each field is a line and the continuation lines after it.
abbrev pub fields_in : List (List ℕ) → List (List (List ℕ))
fields_in [] = []
fields_in (line ∷ []) = (line ∷ []) ∷ []
fields_in (line ∷ next ∷ lines) =
    if is_continuation next then in_first line (fields_in (next ∷ lines))
    else (line ∷ []) ∷ fields_in (next ∷ lines)

-- The octets, if any, with one before them.
abbrev pub with_octet : ℕ → Option (List ℕ) → Option (List ℕ)
with_octet octet None = None
with_octet octet (Some octets) = Some (octet ∷ octets)

-- The octets before the first colon, if there is one.
abbrev pub before_colon : List ℕ → Option (List ℕ)
before_colon [] = None
before_colon (octet ∷ octets) =
    if octet == 58 then Some [] else with_octet octet (before_colon octets)

-- A text without the blanks at its end.
abbrev pub trim_end_blanks : List ℕ → List ℕ
trim_end_blanks [] = []
trim_end_blanks (octet ∷ octets) =
    if list_all is_blank (octet ∷ octets) then [] else octet ∷ trim_end_blanks octets

-- Whether the name is one of these, compared without case.
abbrev pub is_among : List (List ℕ) → Option (List ℕ) → Bool
is_among names None = false
is_among names (Some name) = has_keyword name names

-- Whether a line begins a field with one of these names: the name precedes the first colon, without
-- blanks at its end.
abbrev pub has_requested_name : List (List ℕ) → List ℕ → Bool
has_requested_name names line = is_among names (option_map trim_end_blanks (before_colon line))

-- Whether a line begins a selected field: with one of these names if `named`, else with another
-- name or none.
abbrev pub is_requested_field : Bool → List (List ℕ) → List ℕ → Bool
is_requested_field named names line =
    if named then has_requested_name names line else not (has_requested_name names line)

abbrev pub first_asked : (List ℕ → Bool) → List (List ℕ) → Bool
first_asked asked [] = false
first_asked asked (line ∷ more) = asked line

-- The lines before the empty one, and the empty one if there is one.
abbrev pub field_lines : List (List ℕ) → List (List ℕ)
field_lines [] = []
field_lines (line ∷ lines) = if is_empty_line line then [] else line ∷ field_lines lines

abbrev pub empty_line : List (List ℕ) → List ℕ
empty_line [] = []
empty_line (line ∷ lines) = if is_empty_line line then line else empty_line lines

-- The selected fields, one after another.
abbrev pub asked_fields_in : (List ℕ → Bool) → List (List (List ℕ)) → List ℕ
asked_fields_in asked fields = concat (map concat (filter (first_asked asked) fields))

-- The fields with one of these names, or all others, in the order of the text, and then the empty
-- line if there is one (RFC 9051, section 6.4.5.1, HEADER.FIELDS and HEADER.FIELDS.NOT).
abbrev pub fields_of : Bool → List (List ℕ) → List ℕ → List ℕ
fields_of named names text =
    asked_fields_in (is_requested_field named names) (fields_in (field_lines (lines_of text)))
    ++ empty_line (lines_of text)
