use Rattle.std.proofs.Common.{◌≡◌, ℕ, zero, suc, ◌<◌, ◌≤◌, true, List, [], ◌∷◌, length, IsTrue, get_or, ap, arith, refl, pos}
use Rattle.std.proofs.lemmas.Bool.{and_parts, and_from, leb-true, le-leb}
use Rattle.std.proofs.lemmas.Int.{ints}
use Rattle.jiff.specs.Words.{IsDate, days_in_month}
use Rattle.imap_types.specs.DateTimes.{fits_symbol, date_time_picture, HasPicture, HasTime, IsDateTime, day_at, month_at, year_at}
use Rattle.imap_types.specs.DateTimeTests.{is_date_time, is_day, is_time, matches_picture}

by_place : (symbol octet : ℕ) (symbols octets : List ℕ) → fits_symbol symbol octet ≡ true → ((k : ℕ) → k < length symbols → IsTrue (fits_symbol (get_or symbols k 0) (get_or octets k 0))) → (k : ℕ) → k < length (symbol ∷ symbols) → IsTrue (fits_symbol (get_or (symbol ∷ symbols) k 0) (get_or (octet ∷ octets) k 0))
by_place symbol octet symbols octets e h zero l = e
by_place symbol octet symbols octets e h (suc k) l = h k (omega arith)

picture_sound : (ms bs : List ℕ) → matches_picture ms bs ≡ true → HasPicture ms bs
picture_sound [] [] h = (refl, λ k l. absurd (omega arith))
picture_sound [] (b ∷ bs) h = cc
picture_sound (m ∷ ms) [] h = cc
picture_sound (m ∷ ms) (b ∷ bs) h =
    let p = and_parts _ _ h in
    let r = picture_sound ms bs p.1 in
    (ap suc r.0, by_place m b ms bs p.0 r.1)

picture_complete : (ms bs : List ℕ) → HasPicture ms bs → matches_picture ms bs ≡ true
picture_complete [] [] h = refl
picture_complete [] (b ∷ bs) h = absurd (omega (arith, h.0))
picture_complete (m ∷ ms) [] h = absurd (omega (arith, h.0))
picture_complete (m ∷ ms) (b ∷ bs) h = and_from _ _ (h.1 zero (omega arith)) (picture_complete ms bs (omega (arith, h.0), λ k l. h.1 (suc k) (omega arith)))

day_sound : (y m d : ℕ) → is_day y m d ≡ true → IsDate (pos y) (pos m) (pos d)
day_sound y m d h =
    let p = and_parts _ _ h in
    let q = and_parts _ _ p.0 in
    let r = and_parts _ _ q.0 in
    let s = and_parts _ _ r.0 in
    let a : y ≤ 9999 = leb-true _ _ s.0 in
    let b : 1 ≤ m = leb-true _ _ s.1 in
    let c : m ≤ 12 = leb-true _ _ r.1 in
    let e : 1 ≤ d = leb-true _ _ q.1 in
    let f : d ≤ days_in_month (pos y) m = leb-true _ _ p.1 in
    ((omega (arith, ints), omega (arith, ints)), (omega (arith, ints), omega (arith, ints)), (omega (arith, ints), omega (arith, ints)))

day_complete : (y m d : ℕ) → IsDate (pos y) (pos m) (pos d) → is_day y m d ≡ true
day_complete y m d h =
    let a : y ≤ 9999 = omega (arith, ints, h.0.1) in
    let b : 1 ≤ m = omega (arith, ints, h.1.0) in
    let c : m ≤ 12 = omega (arith, ints, h.1.1) in
    let e : 1 ≤ d = omega (arith, ints, h.2.0) in
    let f : d ≤ days_in_month (pos y) m = omega (arith, ints, h.2.1) in
    and_from _ _ (and_from _ _ (and_from _ _ (and_from _ _ (le-leb _ _ a) (le-leb _ _ b)) (le-leb _ _ c)) (le-leb _ _ e)) (le-leb _ _ f)

time_sound : (t : List ℕ) → is_time t ≡ true → HasTime t
time_sound t h =
    let p = and_parts _ _ h in
    let q = and_parts _ _ p.0 in
    let r = and_parts _ _ q.0 in
    let s = and_parts _ _ r.0 in
    record { hour = leb-true _ _ s.0; minute = leb-true _ _ s.1; second = leb-true _ _ r.1; zone_hour = leb-true _ _ q.1; zone_minute = leb-true _ _ p.1 }

time_complete : (t : List ℕ) → HasTime t → is_time t ≡ true
time_complete t h = and_from _ _ (and_from _ _ (and_from _ _ (and_from _ _ (le-leb _ _ h.hour) (le-leb _ _ h.minute)) (le-leb _ _ h.second)) (le-leb _ _ h.zone_hour)) (le-leb _ _ h.zone_minute)

pub date_time_from_test : (t : List ℕ) → is_date_time t ≡ true → IsDateTime t
unfolding is_date_time
date_time_from_test t h =
    let p = and_parts _ _ h in
    let q = and_parts _ _ p.0 in
    record { form = picture_sound date_time_picture t q.0; date = day_sound (year_at t) (month_at t) (day_at t) q.1; time = time_sound t p.1 }

pub test_from_date_time : (t : List ℕ) → IsDateTime t → is_date_time t ≡ true
unfolding is_date_time
test_from_date_time t h = and_from _ _ (and_from _ _ (picture_complete date_time_picture t h.form) (day_complete (year_at t) (month_at t) (day_at t) h.date)) (time_complete t h.time)
