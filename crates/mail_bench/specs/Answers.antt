-- The meaning of an answer's line (RFC 9051, section 7).

use Rattle.std.specs.Prelude.{ℕ, ◌+◌, ◌-◌, ◌*◌, ◌==◌, ◌&&◌, not, nat_lt, length, take, drop, List}
use Rattle.std.specs.Prelude.{[], ◌∷◌, Option, Some, None, is_some, codes, if◌then◌else◌}
use Rattle.std.specs.Char.{is_ascii_digit}
use Rattle.std.specs.Fmt.{decimal}
use Rattle.std.specs.List.{list_all}
use Rattle.std.specs.Str.{bytes_eq}
use Rattle.text_fields.specs.FieldReading.{◌>>=◌}
use Rattle.mail_bench.specs.declared.answers.Answer.{Answer}
use Rattle.mail_bench.specs.declared.answers.Answer.TheVariants.{Bye, Continue, Ended, Exists}
use Rattle.mail_bench.specs.declared.answers.Answer.TheVariants.{Other, Unreadable}
use Rattle.mail_bench.specs.declared.answers.Status.{Status}
use Rattle.mail_bench.specs.declared.answers.Status.TheVariants.{Bad, Done, No}

-- The part of a text after a prefix, and the part before a suffix, if the text has them.
abbrev pub tail_of : List ℕ → List ℕ → Option (List ℕ)
tail_of front text =
    if bytes_eq (take (length front) text) front then Some (drop (length front) text) else None

abbrev pub front_of : List ℕ → List ℕ → Option (List ℕ)
front_of end text =
    if bytes_eq (drop (length text - length end) text) end
    then Some (take (length text - length end) text)
    else None

-- How a command ended (RFC 9051, section 7.1).
abbrev pub status_of : List ℕ → Option Status
status_of text =
    if is_some (tail_of (codes "OK ") text) then Some Done
    else if is_some (tail_of (codes "NO ") text) then Some No
    else if is_some (tail_of (codes "BAD ") text) then Some Bad
    else None

-- How a command ended, in a line that has the tag with this number: `b`, the number, a space.
abbrev pub status_in : ℕ → List ℕ → Option Status
status_in number line = do
  rest ← tail_of (codes "b") line
  rest ← tail_of (decimal number) rest
  rest ← tail_of (codes " ") rest
  status_of rest

-- The number that digits spell after the digits of this number.
abbrev pub number_from : ℕ → List ℕ → ℕ
number_from number [] = number
number_from number (digit ∷ digits) = number_from (number * 10 + (digit - 48)) digits

-- The number of at most 32 bits that digits spell.
abbrev pub number_of : List ℕ → Option ℕ
number_of digits =
    if (not (length digits == 0) && list_all is_ascii_digit digits)
    && nat_lt (number_from 0 digits) 4294967296 then Some (number_from 0 digits)
    else None

-- The number of messages in the mailbox, if the line reports it (RFC 9051, section 7.4.1).
abbrev pub exists_in : List ℕ → Option ℕ
exists_in line = do
  rest ← tail_of (codes "* ") line
  digits ← front_of (codes " EXISTS\r\n") rest
  number_of digits

-- The meaning of a line that doesn't have the awaited tag.
abbrev pub plain_answer : List ℕ → Answer
plain_answer line =
    if is_some (tail_of (codes "* BYE") line) then Bye
    else if is_some (tail_of (codes "* ") line) then Other
    else if is_some (tail_of (codes "+") line) then Continue
    else Unreadable

abbrev pub untagged_answer : List ℕ → Option ℕ → Answer
untagged_answer line None = plain_answer line
untagged_answer line (Some messages) = Exists messages

abbrev pub answer_by : List ℕ → Option Status → Answer
answer_by line None = untagged_answer line (exists_in line)
answer_by line (Some status) = Ended status

-- The meaning of a line while the end of the command with this number is awaited.
abbrev pub answer_of : ℕ → List ℕ → Answer
answer_of number line = answer_by line (status_in number line)
