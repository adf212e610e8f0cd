use Rattle.std.proofs.Common.{◌≡◌, ◌∙◌, ℕ, zero, suc, ◌+◌, ◌-◌, ◌*◌, ◌/◌, ◌%◌, ◌<◌, ◌≤◌, true, false, List, [], ◌∷◌, arith, refl, pos, ℤ, unsigned_abs, inl, inr}
use Rattle.std.proofs.lemmas.Bool.{and_from, cases_Bool, le-leb, le-ltb}
use Rattle.std.proofs.lemmas.Int.{ints}
use Rattle.std.proofs.Math.Nat.{div-add-mod}
use Rattle.std.specs.Prelude.{codes, ◌&&◌, ◌||◌, ◌==◌, nat_lt}
use Rattle.jiff.proofs.OnLiterals.{jiff_on_literals}
use Rattle.jiff.specs.Types.{Date}
use Rattle.jiff.specs.Words.{epoch_day, IsYmd, days_in_month, is_leap_year}
use Rattle.imap_types.specs.DateTimes.{IsDateTime, date_time_picture, day_at, is_digit, month_at, month_of, two_digits, year_at}
use Rattle.imap_types.specs.DateTimeTests.{is_date_time, is_day, is_time, matches_picture}
use Rattle.imap_types.proofs.DateTimeLemmas.{date_time_from_test}
use Rattle.mail_text.specs.Civil.{month_name, utc_text}

-- the day from which days are counted
pub epoch : (d : Date) → IsYmd (pos 1970) (pos 1) (pos 1) d → epoch_day d ≡ pos 0
unfolding jiff_on_literals
epoch d h =
    let y : d.year ≡ pos 1970 = h.0 in
    let m : d.month ≡ 1 = omega (arith, ints, h.1) in
    let n : d.day ≡ 1 = omega (arith, ints, h.2) in
    rw (y, m, n) refl

-- a digit

digit : (q : ℕ) → q < 10 → is_digit (48 + q) ≡ true
digit q h = let a : nat_lt (48 + q) 48 ≡ false = le-ltb _ _ (omega arith) in let b : nat_lt 57 (48 + q) ≡ false = le-ltb _ _ (omega arith) in rw (a, b) refl

-- two digits spell their number
again : (n : ℕ) → (48 + n / 10 - 48) * 10 + (48 + n % 10 - 48) ≡ n
again n = omega (arith, div-add-mod n 10)

-- the letters of a month
pub record HasLetters (month : ℕ) : Type 0 where
  pub a : ℕ
  pub b : ℕ
  pub c : ℕ
  pub are : month_name month ≡ a ∷ b ∷ c ∷ []
  pub name : month_of (a ∷ b ∷ c ∷ []) ≡ month

has_letters : (month : ℕ) → 1 ≤ month → month ≤ 12 → HasLetters month
has_letters zero l h = absurd (omega arith)
has_letters (suc zero) l h = record { a = 74; b = 97; c = 110; are = refl; name = refl }
has_letters (suc (suc zero)) l h = record { a = 70; b = 101; c = 98; are = refl; name = refl }
has_letters (suc (suc (suc zero))) l h = record { a = 77; b = 97; c = 114; are = refl; name = refl }
has_letters (suc (suc (suc (suc zero)))) l h = record { a = 65; b = 112; c = 114; are = refl; name = refl }
has_letters (suc (suc (suc (suc (suc zero))))) l h = record { a = 77; b = 97; c = 121; are = refl; name = refl }
has_letters (suc (suc (suc (suc (suc (suc zero)))))) l h = record { a = 74; b = 117; c = 110; are = refl; name = refl }
has_letters (suc (suc (suc (suc (suc (suc (suc zero))))))) l h = record { a = 74; b = 117; c = 108; are = refl; name = refl }
has_letters (suc (suc (suc (suc (suc (suc (suc (suc zero)))))))) l h = record { a = 65; b = 117; c = 103; are = refl; name = refl }
has_letters (suc (suc (suc (suc (suc (suc (suc (suc (suc zero))))))))) l h = record { a = 83; b = 101; c = 112; are = refl; name = refl }
has_letters (suc (suc (suc (suc (suc (suc (suc (suc (suc (suc zero)))))))))) l h = record { a = 79; b = 99; c = 116; are = refl; name = refl }
has_letters (suc (suc (suc (suc (suc (suc (suc (suc (suc (suc (suc zero))))))))))) l h = record { a = 78; b = 111; c = 118; are = refl; name = refl }
has_letters (suc (suc (suc (suc (suc (suc (suc (suc (suc (suc (suc (suc zero)))))))))))) l h = record { a = 68; b = 101; c = 99; are = refl; name = refl }
has_letters (suc (suc (suc (suc (suc (suc (suc (suc (suc (suc (suc (suc (suc m))))))))))))) l h = absurd (omega arith)

-- the form, octet by octet
fits : (a b c d y z : ℕ) → d < 100 → y < 100 → z < 100 → (h i s : ℕ) → h < 100 → i < 100 → s < 100
    → matches_picture date_time_picture
    (34 ∷ (48 + d / 10) ∷ (48 + d % 10) ∷ 45 ∷ a ∷ b ∷ c ∷ 45 ∷ (48 + y / 10) ∷ (48 + y % 10) ∷ (48 + z / 10) ∷ (48 + z % 10) ∷ 32
    ∷ (48 + h / 10) ∷ (48 + h % 10) ∷ 58 ∷ (48 + i / 10) ∷ (48 + i % 10) ∷ 58 ∷ (48 + s / 10) ∷ (48 + s % 10) ∷ codes " +0000\"") ≡ true
fits a b c d y z hd hy hz h i s hh hi hs =
    let d1 = digit (d / 10) (omega (arith, div-add-mod d 10)) in
    let d2 = digit (d % 10) (omega (arith, div-add-mod d 10)) in
    let y1 = digit (y / 10) (omega (arith, div-add-mod y 10)) in
    let y2 = digit (y % 10) (omega (arith, div-add-mod y 10)) in
    let z1 = digit (z / 10) (omega (arith, div-add-mod z 10)) in
    let z2 = digit (z % 10) (omega (arith, div-add-mod z 10)) in
    let h1 = digit (h / 10) (omega (arith, div-add-mod h 10)) in
    let h2 = digit (h % 10) (omega (arith, div-add-mod h 10)) in
    let i1 = digit (i / 10) (omega (arith, div-add-mod i 10)) in
    let i2 = digit (i % 10) (omega (arith, div-add-mod i 10)) in
    let s1 = digit (s / 10) (omega (arith, div-add-mod s 10)) in
    let s2 = digit (s % 10) (omega (arith, div-add-mod s 10)) in
    rw (d1, d2, y1, y2, z1, z2, h1, h2, i1, i2, s1, s2) refl

-- the day is one of the calendar
has_day : (d : Date) → is_day (unsigned_abs d.year) d.month d.day ≡ true
has_day d =
    let y : unsigned_abs d.year ≤ 9999 = omega (arith, ints, d.year_in) in
    let m = d.month_in in
    let n = d.day_in in
    and_from _ _ (and_from _ _ (and_from _ _ (and_from _ _ (le-leb _ _ y) (le-leb _ _ m.0)) (le-leb _ _ m.1)) (le-leb _ _ n.0)) (le-leb _ _ n.1)

-- the time is one of the day, in UTC
has_time : (text : List ℕ) → two_digits text 13 ≤ 23 → two_digits text 16 ≤ 59 → two_digits text 19 ≤ 60 → two_digits text 23 ≤ 23 → two_digits text 25 ≤ 59 → is_time text ≡ true
has_time text h i s z n = and_from _ _ (and_from _ _ (and_from _ _ (and_from _ _ (le-leb _ _ h) (le-leb _ _ i)) (le-leb _ _ s)) (le-leb _ _ z)) (le-leb _ _ n)

-- no month is longer than 31 days
long_month : (year : ℤ) (month : ℕ) → days_in_month year month ≤ 31
long_month year month =
    elim (cases_Bool (month == 2)) [
      | inl t ↦ elim (cases_Bool (is_leap_year year)) [ inl u ↦ rw (t, u) (omega arith) | inr u ↦ rw (t, u) (omega arith) ]
      | inr t ↦ elim (cases_Bool ((month == 4) || (month == 6) || (month == 9) || (month == 11))) [ inl u ↦ rw (t, u) (omega arith) | inr u ↦ rw (t, u) (omega arith) ]
    ]

-- the parts of the test
whole : (text other : List ℕ) → text ≡ other → matches_picture date_time_picture other ≡ true → is_day (year_at other) (month_at other) (day_at other) ≡ true → is_time other ≡ true → is_date_time text ≡ true
unfolding is_date_time
whole text other e form held time = (λ i. matches_picture date_time_picture (e i) && is_day (year_at (e i)) (month_at (e i)) (day_at (e i)) && is_time (e i)) ∙ and_from _ _ (and_from _ _ form held) time

abbrev spelled : (a b c d y z h i s : ℕ) → List ℕ
spelled a b c d y z h i s =
    34 ∷ (48 + d / 10) ∷ (48 + d % 10) ∷ 45 ∷ a ∷ b ∷ c ∷ 45 ∷ (48 + y / 10) ∷ (48 + y % 10) ∷ (48 + z / 10) ∷ (48 + z % 10) ∷ 32
    ∷ (48 + h / 10) ∷ (48 + h % 10) ∷ 58 ∷ (48 + i / 10) ∷ (48 + i % 10) ∷ 58 ∷ (48 + s / 10) ∷ (48 + s % 10) ∷ codes " +0000\""

-- the text of a day and its seconds is a date-time
pub lawful : (day : Date) (seconds : ℕ) → seconds < 86400 → IsDateTime (utc_text (unsigned_abs day.year) day.month day.day seconds)
lawful day seconds l =
    let m = has_letters day.month day.month_in.0 day.month_in.1 in
    let y = unsigned_abs day.year in
    let yes : y ≤ 9999 = omega (arith, ints, day.year_in) in
    let text = spelled m.a m.b m.c day.day (y / 100) (y % 100) (seconds / 3600) (seconds % 3600 / 60) (seconds % 60) in
    let e : utc_text y day.month day.day seconds ≡ text = rw m.are refl in
    let n = day.day_in in
    let long : days_in_month day.year day.month ≤ 31 = long_month day.year day.month in
    let year : year_at text ≡ y = omega (arith, div-add-mod y 100, div-add-mod (y / 100) 10, div-add-mod (y % 100) 10) in
    let date : day_at text ≡ day.day = omega (arith, div-add-mod day.day 10) in
    let held : is_day (year_at text) (month_at text) (day_at text) ≡ true = (λ i. is_day (year i) (m.name i) (date i)) ∙ has_day day in
    let hours = div-add-mod seconds 3600 in
    let minutes = div-add-mod (seconds % 3600) 60 in
    let rest = div-add-mod seconds 60 in
    let form = fits m.a m.b m.c day.day (y / 100) (y % 100) (omega arith) (omega (arith, div-add-mod y 100)) (omega (arith, div-add-mod y 100)) (seconds / 3600) (seconds % 3600 / 60) (seconds % 60) (omega arith) (omega arith) (omega arith) in
    let time = has_time text (omega (arith, div-add-mod (seconds / 3600) 10)) (omega (arith, div-add-mod (seconds % 3600 / 60) 10)) (omega (arith, div-add-mod (seconds % 60) 10)) (omega arith) (omega arith) in
    date_time_from_test _ (whole _ _ e form held time)
