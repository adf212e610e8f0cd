-- The days on which messages were sent, by their Date fields (RFC 3501, section 6.4.4; RFC 5322,
-- sections 3.3 and 4.3).

use Rattle.std.specs.Prelude.{ℕ, ◌+◌, Bool, not, ◌&&◌, ◌||◌, ◌==◌, nat_le, nat_lt, List, [], ◌∷◌}
use Rattle.std.specs.Prelude.{codes, length, take, flat_map, Option, Some, None, if◌then◌else◌}
use Rattle.imap_types.specs.DateTimes.{is_digit, month_of}
use Rattle.imap_types.specs.declared.day.Day.{Day}
use Rattle.imap_answers.specs.declared.answer.Answer.{Answer}
use Rattle.imap_answers.specs.declared.answer.Answer.TheVariants as answers
use Rattle.imap_answers.specs.declared.fetch_items.SectionData.{SectionData}
use Rattle.imap_syntax.specs.Strings.{number_of}
use Rattle.imap_grammar.specs.Reading.{is_date, span}
use Rattle.mail_text.specs.TextSearch.{field_value}
use Rattle.rev1_front.specs.declared.search_days.SentDay.{SentDay}

-- An ASCII letter.
abbrev pub is_letter : ℕ → Bool
is_letter octet =
    (nat_le 65 octet && nat_le octet 90) || (nat_le 97 octet && nat_le octet 122)

-- What may be between the parts of a date: a space, a tab, CR, LF or `-`.
abbrev pub is_gap : ℕ → Bool
is_gap octet =
    (octet == 32) || (octet == 9) || (octet == 13) || (octet == 10) || (octet == 45)

-- The parts of a date: its first digits, the letters after them, and the digits after these.
pub record DateParts : Type 0 where
  pub day : List ℕ
  pub month : List ℕ
  pub year : List ℕ

-- The octets after those at the beginning that pass a test.
abbrev pub after_run : (ℕ → Bool) → List ℕ → List ℕ
after_run passes octets = (span passes octets).1

abbrev pub parts_from_year : List ℕ → List ℕ → List ℕ → DateParts
parts_from_year day month octets =
    record { day = day; month = month; year = (span is_digit (after_run is_gap octets)).0 }

abbrev pub parts_from_month : List ℕ → List ℕ × List ℕ → DateParts
parts_from_month day letters = parts_from_year day letters.0 letters.1

abbrev pub parts_from_day : List ℕ × List ℕ → DateParts
parts_from_day digits = parts_from_month digits.0 (span is_letter (after_run is_gap digits.1))

abbrev pub date_parts : List ℕ → DateParts
date_parts value = parts_from_day (span is_digit (after_run (λ octet. not (is_digit octet)) value))

-- The year that two to four digits mean: two digits from 50 on, or three, are one of the last
-- century, less are one of this (RFC 5322, section 4.3).
abbrev pub full_year : List ℕ → ℕ
full_year digits =
    if length digits == 2
    then number_of 0 digits + (if nat_lt (number_of 0 digits) 50 then 2000 else 1900)
    else (if length digits == 3 then number_of 0 digits + 1900 else number_of 0 digits)

-- The lengths that the parts have, and the greatest numbers in them.
abbrev pub are_date_parts : DateParts → Bool
are_date_parts parts =
    nat_le 1 (length parts.day) && nat_le (length parts.day) 2
    && nat_le 3 (length parts.month)
    && nat_le 2 (length parts.year) && nat_le (length parts.year) 4

-- The day of these parts, if the calendar has it. The first three letters name the month.
abbrev pub day_of : ℕ → ℕ → ℕ → Option Day
day_of year month day =
    if is_date year month day then Some (record { year = year; month = month; day = day })
    else None

abbrev pub day_of_parts : DateParts → Option Day
day_of_parts parts =
    if are_date_parts parts
    then day_of (full_year parts.year) (month_of (take 3 parts.month)) (number_of 0 parts.day)
    else None

-- The day in a Date field, as it is written.
abbrev pub written_day : List ℕ → Option Day
written_day value = day_of_parts (date_parts value)

-- The day of a message with this UID and this text.
abbrev pub day_of_uid : ℕ → Option Day → List SentDay
day_of_uid uid None = []
day_of_uid uid (Some day) = record { uid = uid; day = day } ∷ []

abbrev pub day_of_value : Option (List ℕ) → Option Day
day_of_value None = None
day_of_value (Some value) = written_day value

-- The day of a message with this UID, if it is known, whose only section is its text.
abbrev pub fetched_day : Option ℕ → List SectionData → List SentDay
fetched_day (Some uid) (part ∷ []) =
    day_of_uid uid (day_of_value (field_value (codes "Date") part.octets))
fetched_day _ _ = []

abbrev pub sent_day : Answer → List SentDay
sent_day (answers.Fetch number items) = fetched_day items.uid items.sections
sent_day _ = []

-- The days of the messages that answers to FETCH of UIDs and whole texts have; those without a day
-- are left out.
abbrev pub sent_days : List Answer → List SentDay
sent_days given = flat_map sent_day given
