-- The dates of commands: date-times of APPEND and days of SEARCH (RFC 9051, section 9, date-time
-- and date).

use Rattle.std.specs.Prelude.{codes, ◌≡◌, ◌⊎◌, ℕ, ◌≤◌, List, ◌∷◌, length, pos}
use Rattle.jiff.specs.Words.{IsDate}
use Rattle.imap_types.specs.DateTimes.{IsDateTime, month_of}
use Rattle.imap_types.specs.declared.day.Day.{Day}
use Rattle.imap_syntax.specs.Languages.{◌⌢◌, exactly}
use Rattle.imap_syntax.specs.Strings.{number_to}

-- A date-time as it is written: with two digits of the day, or with a space in place of a leading
-- zero (RFC 9051, section 9, date-time).
abbrev pub date_time : List ℕ → List ℕ → Type 0
date_time value text =
    IsDateTime value
    × ((text ≡ value) ⊎ ((rest : List ℕ) × (value ≡ 34 ∷ 48 ∷ rest) × (text ≡ 34 ∷ 32 ∷ rest)))

-- A number up to `limit`, in `least` to `most` digits.
abbrev pub digits_to : ℕ → ℕ → ℕ → ℕ → List ℕ → Type 0
digits_to least most limit value text =
    number_to limit value text × (least ≤ length text) × (length text ≤ most)

-- The day of a month, in one or two digits (RFC 9051, section 9, date-day).
abbrev pub day_of_month : ℕ → List ℕ → Type 0
day_of_month = digits_to 1 2 31

-- A month, by the three letters of its name in any letter case (RFC 9051, section 9, date-month).
abbrev pub month_name : ℕ → List ℕ → Type 0
month_name month text = (length text ≡ 3) × (month_of text ≡ month)

-- A year, in four digits (RFC 9051, section 9, date-year).
abbrev pub year_number : ℕ → List ℕ → Type 0
year_number = digits_to 4 4 9999

-- One `-`.
abbrev pub hyphen : List ℕ → Type 0
hyphen = exactly (codes "-")

-- One `"` (RFC 9051, section 9, DQUOTE).
abbrev pub quote : List ℕ → Type 0
quote = exactly (codes "\"")

-- A day that exists, as `d-Mon-yyyy` (RFC 9051, section 9, date-text).
abbrev pub date_text : Day → List ℕ → Type 0
date_text this text =
    (day_of_month this.day ⌢ hyphen ⌢ month_name this.month ⌢ hyphen ⌢ year_number this.year) text
    × IsDate (pos this.year) (pos this.month) (pos this.day)

-- A day that exists, with or without quotes (RFC 9051, section 9, date).
abbrev pub date : Day → List ℕ → Type 0
date this text = date_text this text ⊎ (quote ⌢ date_text this ⌢ quote) text
