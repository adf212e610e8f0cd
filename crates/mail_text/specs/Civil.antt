-- The date-time of a moment in UTC, and the day that a date-time has in its own zone (RFC 9051,
-- section 9, date-time).

use Rattle.std.specs.Prelude.{◌≡◌, ℕ, ◌+◌, ◌/◌, ◌%◌, ◌==◌, List, [], ◌∷◌, ◌++◌, codes, pos}
use Rattle.std.specs.Prelude.{unsigned_abs, if◌then◌else◌}
use Rattle.imap_types.specs.DateTimes.{day_at, month_at, year_at}
use Rattle.imap_types.specs.declared.day.Day.{Day}
use Rattle.jiff.specs.Words.{epoch_day}
use Rattle.jiff.specs.Types.{Date}

-- A number below 100 in two decimal digits.
abbrev pub in_two_digits : ℕ → List ℕ
in_two_digits n = (48 + n / 10) ∷ (48 + n % 10) ∷ []

-- The three letters that name a month (RFC 9051, section 9, date-month).
abbrev pub month_name : ℕ → List ℕ
month_name month =
    if month == 1 then codes "Jan"
    else (if month == 2 then codes "Feb"
    else (if month == 3 then codes "Mar"
    else (if month == 4 then codes "Apr"
    else (if month == 5 then codes "May"
    else (if month == 6 then codes "Jun"
    else (if month == 7 then codes "Jul"
    else (if month == 8 then codes "Aug"
    else (if month == 9 then codes "Sep"
    else (if month == 10 then codes "Oct"
    else (if month == 11 then codes "Nov" else codes "Dec"))))))))))

-- The date-time in UTC of a day and the seconds since its midnight (RFC 9051, section 9,
-- date-time).
abbrev pub utc_text : ℕ → ℕ → ℕ → ℕ → List ℕ
utc_text year month day seconds =
    codes "\""
    ++ (in_two_digits day
    ++ (codes "-"
    ++ (month_name month ++ (codes "-" ++ (in_two_digits (year / 100) ++ (in_two_digits (year % 100)
    ++ (codes " "
    ++ (in_two_digits (seconds / 3600)
    ++ (codes ":"
    ++ (in_two_digits (seconds % 3600 / 60) ++ (codes ":" ++ (in_two_digits (seconds % 60)
    ++ codes " +0000\""))))))))))))

-- The date-time in UTC that is `moment` seconds after 1 January 1970: days have 86,400 seconds.
pub record IsCivil (moment : ℕ) (text : List ℕ) : Type 0 where
  pub day : Date
  pub counted : epoch_day day ≡ pos (moment / 86400)
  pub spelled : text ≡ utc_text (unsigned_abs day.year) day.month day.day (moment % 86400)

-- The day of a date-time as it is written, in its own zone.
abbrev pub written_day : List ℕ → Day
written_day text = record { year = year_at text; month = month_at text; day = day_at text }
