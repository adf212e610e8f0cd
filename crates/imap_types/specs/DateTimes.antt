-- Date-times and the names of months, as RFC 9051 spells them (section 9, date-time and
-- date-month).

use Rattle.std.specs.Prelude.{◌≡◌, ℕ, ◌+◌, ◌-◌, ◌*◌, ◌<◌, ◌≤◌, Bool, true, not, ◌&&◌, ◌||◌, ◌==◌}
use Rattle.std.specs.Prelude.{nat_lt, List, length, take, drop, map, codes, IsTrue, if◌then◌else◌}
use Rattle.std.specs.Prelude.{pos, slice_index}
use Rattle.std.specs.Char.{to_ascii_lowercase}
use Rattle.std.specs.Str.{bytes_eq}
use Rattle.jiff.specs.Words.{IsDate}

-- Whether an octet is a decimal digit.
abbrev pub is_digit : ℕ → Bool
is_digit octet = not (nat_lt octet 48) && not (nat_lt 57 octet)

-- The picture of a date-time: `9` for a digit, `m` for a letter of the month, `+` for either sign,
-- and any other octet for itself (RFC 9051, section 9, date-time).
abbrev pub date_time_picture : List ℕ
date_time_picture = codes "\"99-mmm-9999 99:99:99 +9999\""

-- Whether an octet fits this symbol of the picture: `9` is 57, `m` 109, `+` 43, `-` 45.
abbrev pub fits_symbol : ℕ → ℕ → Bool
fits_symbol symbol octet =
    if symbol == 57 then is_digit octet
    else (if symbol == 109 then true
    else (if symbol == 43 then (octet == 43) || (octet == 45) else octet == symbol))

-- A text has the form of a picture, octet by octet.
abbrev pub HasPicture : List ℕ → List ℕ → Type 0
HasPicture picture text =
    (length text ≡ length picture)
    × ((k : ℕ) → k < length picture
    → IsTrue (fits_symbol (slice_index picture k) (slice_index text k)))

-- The number spelled by the two digits at a place and after it.
abbrev pub two_digits : List ℕ → ℕ → ℕ
two_digits text place = (slice_index text place - 48) * 10 + (slice_index text (place + 1) - 48)

-- Whether the letters are the name, in any letter case.
abbrev pub are_letters_of : List ℕ → List ℕ → Bool
are_letters_of name letters =
    bytes_eq (map to_ascii_lowercase letters) (map to_ascii_lowercase name)

-- The number of the month that three letters name in any letter case; 0 if they name none (RFC
-- 9051, section 9, date-month).
abbrev pub month_of : List ℕ → ℕ
month_of letters =
    if are_letters_of (codes "jan") letters then 1
    else (if are_letters_of (codes "feb") letters then 2
    else (if are_letters_of (codes "mar") letters then 3
    else (if are_letters_of (codes "apr") letters then 4
    else (if are_letters_of (codes "may") letters then 5
    else (if are_letters_of (codes "jun") letters then 6
    else (if are_letters_of (codes "jul") letters then 7
    else (if are_letters_of (codes "aug") letters then 8
    else (if are_letters_of (codes "sep") letters then 9
    else (if are_letters_of (codes "oct") letters then 10
    else (if are_letters_of (codes "nov") letters then 11
    else (if are_letters_of (codes "dec") letters then 12 else 0)))))))))))

-- The year, the month and the day of a date-time.
abbrev pub year_at : List ℕ → ℕ
year_at text = two_digits text 8 * 100 + two_digits text 10

abbrev pub month_at : List ℕ → ℕ
month_at text = month_of (take 3 (drop 4 text))

abbrev pub day_at : List ℕ → ℕ
day_at text = two_digits text 1

-- The time is one of the day or its leap second, and the zone is less than a day away.
pub record HasTime (text : List ℕ) : Type 0 where
  pub hour : two_digits text 13 ≤ 23
  pub minute : two_digits text 16 ≤ 59
  pub second : two_digits text 19 ≤ 60
  pub zone_hour : two_digits text 23 ≤ 23
  pub zone_minute : two_digits text 25 ≤ 59

-- A date-time with its quotes and two digits of the day (RFC 9051, section 9, date-time), on a day
-- of the proleptic Gregorian calendar.
pub record IsDateTime (text : List ℕ) : Type 0 where
  pub form : HasPicture date_time_picture text
  pub date : IsDate (pos (year_at text)) (pos (month_at text)) (pos (day_at text))
  pub time : HasTime text
