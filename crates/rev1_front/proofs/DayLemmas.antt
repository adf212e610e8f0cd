-- The UIDs of the messages sent on some days, as a key.
use Rattle.std.proofs.Common.{◌≡◌, ℕ, zero, suc, ◌+◌, ◌-◌, ◌^◌, ◌<◌, ◌≤◌, get_or, length, min, eqb, nat_lt, not, Option, None, Result, Bool, true, false, cond, List, [], ◌∷◌, ◌++◌, codes, decimal, map, flat_map, take, refl, sym, ap, ◌∙◌, append_assoc, append-nil, arith}
use Rattle.std.proofs.lemmas.Grind.{flat_map-append}
use Rattle.std.proofs.lemmas.List.{map-append, take_all}
use Rattle.std.specs.Prelude.{OnOk}
use Rattle.std.proofs.lemmas.List.Elements.{filter_more}
use Rattle.std.specs.List.{filter}
use Rattle.std.proofs.lemmas.Bool.{eq-eqb, le-ltb, ne_eqb}
use Rattle.imap_types.specs.DateTimes.{is_digit, month_of}
use Rattle.imap_syntax.specs.Strings.{number_of}
use Rattle.imap_grammar.specs.Reading.{span}
use Rattle.imap_types.specs.declared.day.Day.{Day}
use Rattle.imap_syntax.specs.declared.search.DateRelation.{DateRelation}
use Rattle.rev1_front.specs.SearchForms.{is_related, sent_uids}
use Rattle.rev1_front.specs.declared.search_days.SentDay.{SentDay}
use Rattle.imap_answers.specs.Strings.{separated_by}
use Rattle.rev1_front.specs.SearchReading.{uids_text}
use Rattle.rev1_front.specs.SentDays.{are_date_parts, date_parts, day_of, day_of_parts, full_year, is_gap, is_letter, parts_from_day, parts_from_month, parts_from_year, written_day}
use Rattle.rev1_front.proofs.NumberLemmas.{short_number}
use Rattle.rev1_front.proofs.ResultLemmas.{on_ok}

-- whether there are UIDs
abbrev pub has_uids : List ℕ → Bool
has_uids [] = false
has_uids (uid ∷ uids) = true

-- the key without that for no UIDs
abbrev pub hits_text : List ℕ → List ℕ
hits_text [] = []
hits_text (uid ∷ uids) = codes "UID " ++ separated_by 44 (map decimal (uid ∷ uids))

-- one more UID
pub uid_added : (uids : List ℕ) (uid : ℕ) (has : Bool) → has ≡ has_uids uids → hits_text (uids ++ uid ∷ []) ≡ hits_text uids ++ (cond has (codes ",") (codes "UID ") ++ decimal uid)
uid_added [] uid has h = ap (λ t. codes "UID " ++ t) (append-nil (decimal uid)) ∙ sym (ap (λ b. cond b (codes ",") (codes "UID ") ++ decimal uid) h)
uid_added (first ∷ uids) uid has h =
    let f : List ℕ → List ℕ = λ next. 44 ∷ next in
    let front : List ℕ = codes "UID " in
    ap (λ t. codes "UID " ++ (decimal first ++ flat_map f t)) (map-append decimal uids (uid ∷ []))
    ∙ ap (λ t. codes "UID " ++ (decimal first ++ t)) (flat_map-append f (map decimal uids) (decimal uid ∷ []) ∙ ap (λ t. flat_map f (map decimal uids) ++ t) (append-nil (44 ∷ decimal uid)))
    ∙ ap (λ t. codes "UID " ++ t) (sym (append_assoc (decimal first) (flat_map f (map decimal uids)) (44 ∷ decimal uid)))
    ∙ sym (append_assoc (codes "UID ") (decimal first ++ flat_map f (map decimal uids)) (44 ∷ decimal uid))
    ∙ sym (ap (λ b. (codes "UID " ++ (decimal first ++ flat_map f (map decimal uids))) ++ (cond b (codes ",") (codes "UID ") ++ decimal uid)) h)

pub has_added : (uids : List ℕ) (uid : ℕ) → has_uids (uids ++ uid ∷ []) ≡ true
has_added [] uid = refl
has_added (first ∷ uids) uid = refl

-- all UIDs, or none
pub all_hits : (uids : List ℕ) (has : Bool) → has ≡ has_uids uids → hits_text uids ++ cond has [] (codes "NOT ALL") ≡ uids_text uids
all_hits [] has h = ap (λ b. cond b [] (codes "NOT ALL")) h
all_hits (uid ∷ uids) has h = ap (λ b. hits_text (uid ∷ uids) ++ cond b [] (codes "NOT ALL")) h ∙ append-nil (hits_text (uid ∷ uids))

-- one more message
sent_more : (relation : DateRelation) (day : Day) (days : List SentDay) (i : ℕ) (sent : SentDay) (b : Bool) → i < length days → sent ≡ get_or days i sent → is_related relation sent.day day ≡ b
    → sent_uids relation day (take (i + 1) days) ≡ sent_uids relation day (take i days) ++ map (λ sent. sent.uid) (cond b (sent ∷ []) [])
sent_more relation day days i sent b l e h =
    ap (map (λ (s : SentDay). s.uid)) (filter_more (λ (s : SentDay). is_related relation s.day day) days i sent l)
    ∙ map-append (λ (s : SentDay). s.uid) (filter (λ (s : SentDay). is_related relation s.day day) (take i days)) (cond (is_related relation (get_or days i sent).day day) (get_or days i sent ∷ []) [])
    ∙ ap (λ (n : SentDay). map (λ (s : SentDay). s.uid) (filter (λ (s : SentDay). is_related relation s.day day) (take i days)) ++ map (λ (s : SentDay). s.uid) (cond (is_related relation n.day day) (n ∷ []) [])) (sym e)
    ∙ ap (λ c. map (λ (s : SentDay). s.uid) (filter (λ (s : SentDay). is_related relation s.day day) (take i days)) ++ map (λ (s : SentDay). s.uid) (cond c (sent ∷ []) [])) h

module _ (relation : DateRelation) (day : Day) (days : List SentDay) (i : ℕ) (sent : SentDay) (has : Bool) (before keys : List ℕ) (l : i < length days) (e : sent ≡ get_or days i sent)
    (inv : has ≡ has_uids (sent_uids relation day (take i days))) (text : keys ≡ before ++ hits_text (sent_uids relation day (take i days))) where
  -- one that was sent so
  pub hit_text : is_related relation sent.day day ≡ true → (added : List ℕ) → added ≡ keys ++ (cond has (codes ",") (codes "UID ") ++ decimal sent.uid) → added ≡ before ++ hits_text (sent_uids relation day (take (i + 1) days))
  hit_text h added a =
      a ∙ ap (λ xs. xs ++ (cond has (codes ",") (codes "UID ") ++ decimal sent.uid)) text
      ∙ append_assoc before (hits_text (sent_uids relation day (take i days))) (cond has (codes ",") (codes "UID ") ++ decimal sent.uid)
      ∙ ap (λ xs. before ++ xs) (sym (uid_added (sent_uids relation day (take i days)) sent.uid has inv) ∙ ap hits_text (sym (sent_more relation day days i sent true l e h)))

  pub hit_has : is_related relation sent.day day ≡ true → true ≡ has_uids (sent_uids relation day (take (i + 1) days))
  hit_has h = sym (ap has_uids (sent_more relation day days i sent true l e h) ∙ has_added (sent_uids relation day (take i days)) sent.uid)

  -- one that wasn't
  miss_same : is_related relation sent.day day ≡ false → sent_uids relation day (take i days) ≡ sent_uids relation day (take (i + 1) days)
  miss_same h = sym (sent_more relation day days i sent false l e h ∙ append-nil (sent_uids relation day (take i days)))

  pub miss_text : is_related relation sent.day day ≡ false → keys ≡ before ++ hits_text (sent_uids relation day (take (i + 1) days))
  miss_text h = text ∙ ap (λ u. before ++ hits_text u) (miss_same h)

  pub miss_has : is_related relation sent.day day ≡ false → has ≡ has_uids (sent_uids relation day (take (i + 1) days))
  miss_has h = inv ∙ ap has_uids (miss_same h)

-- an element is that at its place
pub same_at : {X : Type 0} (xs : List X) (i : ℕ) (d : X) → i < length xs → get_or xs i d ≡ get_or xs i (get_or xs i d)
same_at [] i d l = absurd (omega arith)
same_at (x ∷ xs) zero d l = refl
same_at (x ∷ xs) (suc i) d l = same_at xs i d (omega arith)

-- all messages
pub sent_done : {T E : Type 0} (r : Result T E) (relation : DateRelation) (day : Day) (days : List SentDay) (i : ℕ) (has : Bool) (before keys new : List ℕ) → length days ≤ i
    → has ≡ has_uids (sent_uids relation day (take i days)) → keys ≡ before ++ hits_text (sent_uids relation day (take i days))
    → OnOk r (new ≡ keys ++ cond has [] (codes "NOT ALL")) → OnOk r (new ≡ before ++ uids_text (sent_uids relation day days))
sent_done r relation day days i has before keys new l inv text h =
    let whole : take i days ≡ days = take_all i days l in
    on_ok r (λ a.
    a ∙ ap (λ k. k ++ cond has [] (codes "NOT ALL")) text ∙ append_assoc before (hits_text (sent_uids relation day (take i days))) (cond has [] (codes "NOT ALL"))
    ∙ ap (λ x. before ++ x) (all_hits (sent_uids relation day (take i days)) has inv) ∙ ap (λ these. before ++ uids_text (sent_uids relation day these)) whole) h

-- the parts of a date
pub written : (value a0 a1 b0 b1 c0 c1 d0 d1 e0 e1 f0 f1 : List ℕ) (r : Option Day)
    → (a0, a1) ≡ span (λ octet. not (is_digit octet)) value → (b0, b1) ≡ span is_digit a1 → (c0, c1) ≡ span is_gap b1 → (d0, d1) ≡ span is_letter c1 → (e0, e1) ≡ span is_gap d1 → (f0, f1) ≡ span is_digit e1
    → r ≡ day_of_parts (record { day = b0; month = d0; year = f0 }) → r ≡ written_day value
written value a0 a1 b0 b1 c0 c1 d0 d1 e0 e1 f0 f1 r ha hb hc hd he hf h =
    let tail : (x y : List ℕ × List ℕ) → x ≡ y → x.1 ≡ y.1 = λ x y k. ap (λ (z : List ℕ × List ℕ). z.1) k in
    let year : record { day = b0; month = d0; year = f0 } ≡ parts_from_year b0 d0 d1 =
    ap (λ (z : List ℕ × List ℕ). record { day = b0; month = d0; year = z.0 }) (hf ∙ ap (span is_digit) (tail (e0, e1) (span is_gap d1) he)) in
    let month : parts_from_year b0 d0 d1 ≡ parts_from_day (b0, b1) =
    ap (parts_from_month b0) (hd ∙ ap (span is_letter) (tail (c0, c1) (span is_gap b1) hc)) in
    let day : parts_from_day (b0, b1) ≡ date_parts value =
    ap parts_from_day (hb ∙ ap (span is_digit) (tail (a0, a1) (span (λ octet. not (is_digit octet)) value) ha)) in
    h ∙ ap day_of_parts (year ∙ month ∙ day)

pub parts_day : (day month year : List ℕ) (n : ℕ) (r : Option Day) → are_date_parts (record { day = day; month = month; year = year }) ≡ true → n ≡ min (number_of 0 day) (2 ^ 64 - 1) → n ≤ 31
    → r ≡ day_of (full_year year) (month_of (take 3 month)) n → r ≡ day_of_parts (record { day = day; month = month; year = year })
parts_day day month year n r h e l k =
    let same : n ≡ number_of 0 day = omega arith in
    k ∙ ap (λ d. day_of (full_year year) (month_of (take 3 month)) d) same
    ∙ sym (ap (λ b. cond b (day_of (full_year year) (month_of (take 3 month)) (number_of 0 day)) None) h)

-- a year of two, three or four digits
module _ (digits : List ℕ) (year : ℕ) (short : length digits ≤ 4) (octets : (k : ℕ) → get_or digits k 0 < 256) (e : year ≡ min (number_of 0 digits) (2 ^ 64 - 1)) where
  year_is : year ≡ number_of 0 digits
  year_is = let small : number_of 0 digits < 2 ^ 63 = short_number digits short octets in omega arith

  pub last_century : (r : ℕ) → length digits ≡ 2 → 50 ≤ year → r ≡ min (year + 1900) (2 ^ 64 - 1) → r ≡ full_year digits
  last_century r two old h =
      let small : number_of 0 digits < 2 ^ 63 = short_number digits short octets in
      let same : year ≡ number_of 0 digits = year_is in
      let n : r ≡ number_of 0 digits + 1900 = omega arith in
      let late : nat_lt (number_of 0 digits) 50 ≡ false = le-ltb (number_of 0 digits) 50 (omega arith) in
      n ∙ sym (ap (λ b. cond b (number_of 0 digits + cond (nat_lt (number_of 0 digits) 50) 2000 1900) (cond (eqb (length digits) 3) (number_of 0 digits + 1900) (number_of 0 digits))) (eq-eqb (length digits) 2 two)
      ∙ ap (λ b. number_of 0 digits + cond b 2000 1900) late)

  pub three_digits : (r : ℕ) → (length digits ≡ 2 → ⊥) → length digits ≡ 3 → r ≡ min (year + 1900) (2 ^ 64 - 1) → r ≡ full_year digits
  three_digits r not_two three h =
      let small : number_of 0 digits < 2 ^ 63 = short_number digits short octets in
      let same : year ≡ number_of 0 digits = year_is in
      let n : r ≡ number_of 0 digits + 1900 = omega arith in
      n ∙ sym (ap (λ b. cond b (number_of 0 digits + cond (nat_lt (number_of 0 digits) 50) 2000 1900) (cond (eqb (length digits) 3) (number_of 0 digits + 1900) (number_of 0 digits))) (ne_eqb (length digits) 2 not_two)
      ∙ ap (λ b. cond b (number_of 0 digits + 1900) (number_of 0 digits)) (eq-eqb (length digits) 3 three))

  pub four_digits : (length digits ≡ 2 → ⊥) → (length digits ≡ 3 → ⊥) → year ≡ full_year digits
  four_digits not_two not_three =
      year_is ∙ sym (ap (λ b. cond b (number_of 0 digits + cond (nat_lt (number_of 0 digits) 50) 2000 1900) (cond (eqb (length digits) 3) (number_of 0 digits + 1900) (number_of 0 digits))) (ne_eqb (length digits) 2 not_two)
      ∙ ap (λ b. cond b (number_of 0 digits + 1900) (number_of 0 digits)) (ne_eqb (length digits) 3 not_three))
