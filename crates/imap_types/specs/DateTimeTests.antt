-- The test by which octets are a date-time (RFC 9051, section 9, date-time).

use Rattle.std.specs.Prelude.{ℕ, Bool, true, false, ◌&&◌, nat_le, List, [], ◌∷◌, pos}
use Rattle.jiff.specs.Words.{days_in_month}
use Rattle.imap_types.specs.DateTimes.{date_time_picture, day_at, fits_symbol, month_at, two_digits}
use Rattle.imap_types.specs.DateTimes.{year_at}

-- Whether a text has the form of a picture, octet by octet.
abbrev pub matches_picture : List ℕ → List ℕ → Bool
matches_picture [] [] = true
matches_picture [] (b ∷ bs) = false
matches_picture (m ∷ ms) [] = false
matches_picture (m ∷ ms) (b ∷ bs) = fits_symbol m b && matches_picture ms bs

-- Whether the calendar has this day.
abbrev pub is_day : ℕ → ℕ → ℕ → Bool
is_day year month day =
    nat_le year 9999 && nat_le 1 month && nat_le month 12 && nat_le 1 day
    && nat_le day (days_in_month (pos year) month)

-- Whether a text has a time of day, and a zone less than a day away.
abbrev pub is_time : List ℕ → Bool
is_time text =
    nat_le (two_digits text 13) 23 && nat_le (two_digits text 16) 59
    && nat_le (two_digits text 19) 60 && nat_le (two_digits text 23) 23
    && nat_le (two_digits text 25) 59

-- Whether a text is a date-time.
unfoldable pub is_date_time : List ℕ → Bool
is_date_time text =
    matches_picture date_time_picture text && is_day (year_at text) (month_at text) (day_at text)
    && is_time text
