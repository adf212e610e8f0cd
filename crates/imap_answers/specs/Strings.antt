-- Strings, names, numbers and sets of numbers as answers print them (RFC 9051, section 9).

use Rattle.std.specs.Prelude.{ℕ, Bool, not, ◌&&◌, ◌||◌, ◌==◌, List, [], ◌∷◌, ◌++◌, length, map}
use Rattle.std.specs.Prelude.{flat_map, codes, decimal, Option, Some, None, if◌then◌else◌}
use Rattle.std.specs.List.{list_all, list_any}
use Rattle.std.specs.Str.{bytes_eq}
use Rattle.imap_types.specs.Keywords.{is_astring_octet, to_lower_case}
use Rattle.imap_types.specs.Names.{inbox, is_inbox}
use Rattle.imap_types.specs.Numbers.{runs_of}
use Rattle.imap_types.specs.declared.number_set.Run.{Run}

-- The end of a line (RFC 9051, section 9, CRLF).
abbrev pub crlf : List ℕ
crlf = codes "\r\n"

-- Texts joined by an octet.
abbrev pub separated_by : ℕ → List (List ℕ) → List ℕ
separated_by between [] = []
separated_by between (text ∷ texts) = text ++ flat_map (λ next. between ∷ next) texts

-- Whether a string can be printed without quotes: it isn't empty, all its octets may be in an
-- astring, and it isn't NIL in any letter case (RFC 9051, section 9, astring and nil).
abbrev pub is_plain : List ℕ → Bool
is_plain string =
    not (length string == 0) && list_all is_astring_octet string
    && not (bytes_eq (to_lower_case string) (codes "nil"))

-- An octet between quotes; `"` (34) and `\` (92) follow a `\` (RFC 9051, section 9, QUOTED-CHAR).
abbrev pub escaped_octet : ℕ → List ℕ
escaped_octet octet = if (octet == 34) || (octet == 92) then 92 ∷ octet ∷ [] else octet ∷ []

-- A string between quotes (RFC 9051, section 9, quoted).
abbrev pub quoted_string : List ℕ → List ℕ
quoted_string string = codes "\"" ++ flat_map escaped_octet string ++ codes "\""

-- A string as a literal with its length in octets (RFC 9051, section 9, literal).
abbrev pub literal_text : List ℕ → List ℕ
literal_text string = codes "{" ++ decimal (length string) ++ codes "}\r\n" ++ string

-- A mailbox name: INBOX in capitals, any other name without quotes if possible (RFC 9051, section
-- 9, mailbox).
abbrev pub name_text : List ℕ → List ℕ
name_text name =
    if is_inbox name then inbox else (if is_plain name then name else quoted_string name)

-- Whether a string has octets that can't be between quotes: CR (13) or LF (10).
abbrev pub has_line_octet : List ℕ → Bool
has_line_octet string = list_any (λ octet. (octet == 13) || (octet == 10)) string

-- The name of a header field: without quotes if possible, as a literal only if it can't be between
-- quotes (RFC 9051, section 9, header-fld-name).
abbrev pub field_text : List ℕ → List ℕ
field_text name =
    if is_plain name then name
    else (if has_line_octet name then literal_text name else quoted_string name)

-- A run of numbers: a single number, or the first and last of several (RFC 9051, section 9,
-- seq-range).
abbrev pub run_text : Run → List ℕ
run_text run =
    if run.first == run.last then decimal run.first
    else decimal run.first ++ codes ":" ++ decimal run.last

-- Ascending numbers as runs separated by commas (44) (RFC 9051, section 9, sequence-set).
abbrev pub set_text : List ℕ → List ℕ
set_text numbers = separated_by 44 (map run_text (runs_of numbers))

-- A label and its number, or nothing if there is no number.
abbrev pub labelled_number : List ℕ → Option ℕ → List ℕ
labelled_number label None = []
labelled_number label (Some number) = label ++ decimal number

-- A label and its number as one text of a list, or no text if there is no number.
abbrev pub item : List ℕ → Option ℕ → List (List ℕ)
item label None = []
item label (Some number) = (label ++ decimal number) ∷ []
