-- A log is lines. Each line is the checksum of a text in hexadecimal, a space, the text, and a line
-- end.

use Rattle.std.specs.Prelude.{◌≡◌, ℕ, ◌+◌, ◌/◌, ◌%◌, true, not, ◌==◌, nat_lt, List, [], ◌∷◌, ◌++◌}
use Rattle.std.specs.Prelude.{Option, Some, None, take, drop, if◌then◌else◌}
use Rattle.std.specs.List.{flat_map, list_all}
use Rattle.std.specs.Str.{bytes_eq}
use Rattle.crc32c.specs.Checksum.{crc32c}
use Rattle.crdt_ops.specs.Reading.{parts_at}

-- A text has no line end (10).
abbrev pub IsText : List ℕ → Type 0
IsText text = list_all (λ octet. not (octet == 10)) text ≡ true

-- Each of them is a text.
abbrev pub AreTexts : List (List ℕ) → Type 0
AreTexts [] = Unit {0}
AreTexts (text ∷ texts) = IsText text × AreTexts texts

-- The upper-case hexadecimal digit of a number below 16.
abbrev pub hex_digit : ℕ → ℕ
hex_digit n = if nat_lt n 10 then 48 + n else 55 + n

-- A number below 2^32 in eight hexadecimal digits.
abbrev pub hex_word : ℕ → List ℕ
hex_word n =
    hex_digit (n / 0x10000000 % 16) ∷ hex_digit (n / 0x1000000 % 16)
    ∷ hex_digit (n / 0x100000 % 16) ∷ hex_digit (n / 0x10000 % 16)
    ∷ hex_digit (n / 0x1000 % 16) ∷ hex_digit (n / 0x100 % 16)
    ∷ hex_digit (n / 0x10 % 16) ∷ hex_digit (n % 16) ∷ []

-- The octets before a text in its line: its checksum and a space (32).
unfoldable pub checksum_field : List ℕ → List ℕ
checksum_field text = hex_word (crc32c text) ++ 32 ∷ []

-- The line of a text, with its end.
abbrev pub line_of : List ℕ → List ℕ
line_of text = checksum_field text ++ text ++ 10 ∷ []

-- The lines of texts.
abbrev pub log_of : List (List ℕ) → List ℕ
log_of texts = flat_map line_of texts

-- The text of a line without its end; `None` if the checksum before it isn't that of the text.
unfoldable pub line_text : List ℕ → Option (List ℕ)
line_text line =
    if bytes_eq (take 9 line) (checksum_field (drop 9 line)) then Some (drop 9 line) else None

-- A text, if any, before others; no texts if there is none.
abbrev pub with_text_before : Option (List ℕ) → List (List ℕ) → List (List ℕ)
with_text_before None texts = []
with_text_before (Some text) texts = text ∷ texts

-- The texts of lines up to the first whose checksum isn't that of its text. The last part isn't a
-- line, since no line end follows it.
abbrev pub texts_of_parts : List (List ℕ) → List (List ℕ)
texts_of_parts [] = []
texts_of_parts (part ∷ []) = []
texts_of_parts (line ∷ next ∷ parts) =
    with_text_before (line_text line) (texts_of_parts (next ∷ parts))

-- The texts of a log's whole lines, up to the first line that is unfinished or whose checksum isn't
-- that of its text.
unfoldable pub recovered_texts : List ℕ → List (List ℕ)
recovered_texts log = texts_of_parts (parts_at 10 log)
