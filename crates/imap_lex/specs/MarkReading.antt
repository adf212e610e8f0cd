-- How the mark at a line's end is read: what the framer computes. Marks says what it means (RFC
-- 9051, section 4.3).

use Rattle.std.specs.Prelude.{ℕ, ◌^◌, Bool, true, false, ◌==◌, nat_lt, nat_le, List, [], ◌∷◌, take}
use Rattle.std.specs.Prelude.{drop, Option, Some, None, if◌then◌else◌}
use Rattle.std.specs.Char.{is_ascii_digit}
use Rattle.std.specs.List.{prefix_len}
use Rattle.std.specs.Str.{bytes_eq}
use Rattle.imap_lex.specs.declared.literal_mark.LineEffect.{LineEffect}
use Rattle.imap_lex.specs.declared.literal_mark.LineEffect.TheVariants.{Whole, Literal, TooLong}
use Rattle.imap_lex.specs.declared.literal_mark.Mark.{Mark}
use Rattle.imap_lex.specs.Marks.{value_of}

-- Whether the mark that these octets close is `{n+}`; none if they don't close a mark.
abbrev pub closing_at : List ℕ → Option Bool
closing_at text =
    if bytes_eq text (125 ∷ 13 ∷ 10 ∷ []) then Some false
    else (if bytes_eq text (43 ∷ 125 ∷ 13 ∷ 10 ∷ []) then Some true else None)

-- The mark of this number, if it is closed.
abbrev pub mark_of_number : ℕ → Option Bool → Option (ℕ × Bool)
mark_of_number n None = None
mark_of_number n (Some plus) = Some (n, plus)

-- The number of digits at the beginning of a text.
abbrev pub digits_at : List ℕ → ℕ
digits_at text = prefix_len is_ascii_digit text

-- The mark whose opening brace is just before this text: the octets that it announces, and whether
-- it is `{n+}`.
abbrev pub brace_mark : List ℕ → Option (ℕ × Bool)
brace_mark text =
    if digits_at text == 0 then None
    else mark_of_number (value_of 0 (take (digits_at text) text))
    (closing_at (drop (digits_at text) text))

-- The first mark, or the other if there is no first.
abbrev pub or_else : Option (ℕ × Bool) → Option (ℕ × Bool) → Option (ℕ × Bool)
or_else None other = other
or_else (Some mark) other = Some mark

-- The mark at the end of a line: the first brace that begins one decides, since a mark has no brace
-- inside.
abbrev pub line_mark : List ℕ → Option (ℕ × Bool)
line_mark [] = None
line_mark (octet ∷ octets) =
    if octet == 123 then or_else (brace_mark octets) (line_mark octets) else line_mark octets

-- The mark as the program represents it: a number that doesn't fit in 64 bits is above any limit.
abbrev pub fit_to_limit : Option (ℕ × Bool) → Option Mark
fit_to_limit None = None
fit_to_limit (Some mark) =
    Some (record { octets = if nat_lt mark.0 (2 ^ 64) then Some mark.0 else None; plus = mark.1 })

-- The effect of the end of a line with this mark, if literals may have `room` further octets.
abbrev pub line_effect_by : Option (ℕ × Bool) → ℕ → LineEffect
line_effect_by None room = Whole
line_effect_by (Some mark) room =
    if nat_le mark.0 room then Literal mark.0 mark.1 else TooLong mark.1

-- The effect of the end of this line, in the same way.
abbrev pub line_effect_of : List ℕ → ℕ → LineEffect
line_effect_of line room = line_effect_by (line_mark line) room
