-- Date-times.
use Rattle.std.proofs.Common.{◌≡◌, ◌⊎◌, ℕ, ◌≤◌, true, false, cond, not, nat_lt, List, [], ◌∷◌, ◌++◌, Some, None, length, take, drop, get_or, ap, sym, ◌∙◌, refl, subst, arith, eqb, inl, inr, pos, length-append}
use Rattle.std.proofs.lemmas.Bool.{and_parts, and_from, cases_Bool, eqb-true, le-ltb}
use Rattle.std.proofs.lemmas.Bool.Decides.{nat_tests}
use Rattle.std.proofs.lemmas.Int.{ints}
use Rattle.std.proofs.lemmas.List.{take_at, drop_at, take-append-drop}
use Rattle.jiff.specs.Words.{IsDate, days_in_month}
use Rattle.imap_types.specs.DateTimeTests.{is_date_time}
use Rattle.imap_types.specs.DateTimes.{IsDateTime, is_digit}
use Rattle.imap_types.proofs.DateTimeLemmas.{date_time_from_test, test_from_date_time}
use Rattle.imap_syntax.specs.Dates.{date_time}
use Rattle.imap_grammar.specs.Reading.{is_date, zeroed}
use Rattle.imap_grammar.specs.CommandReading.{date_time_at}
use Rattle.imap_syntax.specs.Strings.{begins_with}
use Rattle.imap_grammar.proofs.ReaderLaws.{HasPrefix, IsReader, chosen, guarded, some_is}

not_above : (limit n : ℕ) → not (nat_lt limit n) ≡ true → n ≤ limit
not_above limit n h = grind (arith, nat_tests)

above_not : (limit n : ℕ) → n ≤ limit → not (nat_lt limit n) ≡ true
above_not limit n h = grind (arith, nat_tests)

pub date_from : (y m d : ℕ) → is_date y m d ≡ true → IsDate (pos y) (pos m) (pos d)
date_from y m d h =
    let a = and_parts _ _ h in
    let b = and_parts _ _ a.1 in
    let c = and_parts _ _ b.1 in
    let e = and_parts _ _ c.1 in
    let year : y ≤ 9999 = not_above 9999 y a.0 in
    let low : 1 ≤ m = not_above m 1 b.0 in
    let high : m ≤ 12 = not_above 12 m c.0 in
    let first : 1 ≤ d = not_above d 1 e.0 in
    let last : d ≤ days_in_month (pos y) m = not_above (days_in_month (pos y) m) d e.1 in
    ((omega (arith, ints), omega (arith, ints)), (omega (arith, ints), omega (arith, ints)), (omega (arith, ints), omega (arith, ints)))

pub date_to : (y m d : ℕ) → IsDate (pos y) (pos m) (pos d) → is_date y m d ≡ true
date_to y m d h =
    let year : y ≤ 9999 = let k = h.0.1 in omega (arith, ints) in
    let low : 1 ≤ m = let k = h.1.0 in omega (arith, ints) in
    let high : m ≤ 12 = let k = h.1.1 in omega (arith, ints) in
    let first : 1 ≤ d = let k = h.2.0 in omega (arith, ints) in
    let last : d ≤ days_in_month (pos y) m = let k = h.2.1 in omega (arith, ints) in
    and_from _ _ (above_not 9999 y year) (and_from _ _ (above_not m 1 low) (and_from _ _ (above_not 12 m high) (and_from _ _ (above_not d 1 first) (above_not (days_in_month (pos y) m) d last))))

-- the date-time that the code makes from 28 octets
pub date_made : (octets map_read : List ℕ) → 28 ≤ length octets → IsDateTime (zeroed (take 28 octets)) → map_read ≡ zeroed (take 28 octets) → date_time_at octets ≡ Some (map_read, drop 28 octets)
date_made octets map_read l h e =
    ap (λ b. cond b None (cond (is_date_time (zeroed (take 28 octets))) (Some (zeroed (take 28 octets), drop 28 octets)) None)) (le-ltb _ _ l)
    ∙ ap (λ b. cond b (Some (zeroed (take 28 octets), drop 28 octets)) None) (test_from_date_time (zeroed (take 28 octets)) h)
    ∙ ap (λ v. Some (v, drop 28 octets)) (sym e)

pub date_none : (octets : List ℕ) → 28 ≤ length octets → (IsDateTime (zeroed (take 28 octets)) → ⊥) → date_time_at octets ≡ None
date_none octets l h =
    ap (λ b. cond b None (cond (is_date_time (zeroed (take 28 octets))) (Some (zeroed (take 28 octets), drop 28 octets)) None)) (le-ltb _ _ l)
    ∙ elim (cases_Bool (is_date_time (zeroed (take 28 octets)))) [
      | inl t ↦ absurd (h (date_time_from_test (zeroed (take 28 octets)) t))
      | inr f ↦ ap (λ b. cond b (Some (zeroed (take 28 octets), drop 28 octets)) None) f
    ]

quote_first : (a : ℕ) (r : List ℕ) → IsDateTime (a ∷ r) → a ≡ 34
quote_first a r h = let q : eqb a 34 ≡ true = h.form.1 0 (omega arith) in eqb-true a 34 q

zero_cases : (t : List ℕ) → IsDateTime (zeroed t) → (t ≡ zeroed t) ⊎ ((rest : List ℕ) × (zeroed t ≡ 34 ∷ 48 ∷ rest) × (t ≡ 34 ∷ 32 ∷ rest))
zero_cases [] h = inl refl
zero_cases (a ∷ []) h = inl refl
zero_cases (a ∷ b ∷ r) h =
    elim (cases_Bool (eqb b 32)) [
      | inl t ↦
          let z : zeroed (a ∷ b ∷ r) ≡ a ∷ 48 ∷ r = ap (λ c. cond c (a ∷ 48 ∷ r) (a ∷ b ∷ r)) t in
          let q : a ≡ 34 = quote_first a (48 ∷ r) (subst IsDateTime z h) in
          inr (r, z ∙ ap (λ c. c ∷ 48 ∷ r) q, ap (λ c. c ∷ b ∷ r) q ∙ ap (λ c. 34 ∷ c ∷ r) (eqb-true b 32 t))
      | inr f ↦ inl (sym (ap (λ c. cond c (a ∷ 48 ∷ r) (a ∷ b ∷ r)) f))
    ]

date_sound : (octets : List ℕ) (x : List ℕ × List ℕ) → date_time_at octets ≡ Some x → HasPrefix (date_time x.0) octets x.1
date_sound octets x h =
    let g = guarded (nat_lt (length octets) 28) (cond (is_date_time (zeroed (take 28 octets))) (Some (zeroed (take 28 octets), drop 28 octets)) None) x h in
    elim (chosen (is_date_time (zeroed (take 28 octets))) (Some (zeroed (take 28 octets), drop 28 octets)) None (Some x) g.1) [
      | inl t ↦
          let d = date_time_from_test (zeroed (take 28 octets)) t.0 in
          subst (λ (y : List ℕ × List ℕ). HasPrefix (date_time y.0) octets y.1) (some_is (zeroed (take 28 octets), drop 28 octets) x t.1)
          (take 28 octets, (d, zero_cases (take 28 octets) d), sym (take-append-drop 28 octets))
      | inr n ↦ absurd cc
    ]

date_length : (value : List ℕ) → IsDateTime value → length value ≡ 28
date_length value h = h.form.0

digit_no_space : (b : ℕ) → is_digit b ≡ true → eqb b 32 ≡ false
digit_no_space b h = grind (arith, nat_tests)

zeroed_same : (v : List ℕ) → is_digit (get_or v 1 0) ≡ true → zeroed v ≡ v
zeroed_same [] h = refl
zeroed_same (a ∷ []) h = refl
zeroed_same (a ∷ b ∷ r) h = ap (λ c. cond c (a ∷ 48 ∷ r) (a ∷ b ∷ r)) (digit_no_space b h)

date_of : (value t octets rest : List ℕ) → IsDateTime value → length t ≡ 28 → zeroed t ≡ value → octets ≡ t ++ rest → date_time_at octets ≡ Some (value, rest)
date_of value t octets rest h l z e =
    let n : 28 ≤ length octets = let k : length octets ≡ length (t ++ rest) = ap length e in omega (arith, length-append t rest) in
    let front : take 28 octets ≡ t = ap (take 28) e ∙ take_at t rest 28 l in
    let back : drop 28 octets ≡ rest = ap (drop 28) e ∙ drop_at t rest 28 l in
    let same : zeroed (take 28 octets) ≡ value = ap zeroed front ∙ z in
    date_made octets value n (subst IsDateTime (sym same) h) (sym same) ∙ ap (λ r. Some (value, r)) back

date_complete : (value octets rest : List ℕ) → HasPrefix (date_time value) octets rest → date_time_at octets ≡ Some (value, rest)
date_complete value octets rest f =
    let d = f.1.0 in
    elim f.1.1 [
      | inl same ↦
          let digit : is_digit (get_or value 1 0) ≡ true = d.form.1 1 (omega arith) in
          date_of value value octets rest d (date_length value d) (zeroed_same value digit) (f.2 ∙ ap (λ xs. xs ++ rest) same)
      | inr spaced ↦
          let t : List ℕ = 34 ∷ 32 ∷ spaced.0 in
          let n : length t ≡ 28 = let k : length value ≡ length (34 ∷ 48 ∷ spaced.0) = ap length spaced.1 in let l = date_length value d in omega arith in
          date_of value t octets rest d n (sym spaced.1) (f.2 ∙ ap (λ xs. xs ++ rest) spaced.2)
    ]

pub date_reads : (end : List ℕ → Type 0) → IsReader date_time_at date_time end
date_reads end = record { sound = date_sound; complete = λ octets rest value f s. date_complete value octets rest f }

value_begins : (value octets rest : List ℕ) → IsDateTime value → octets ≡ value ++ rest → begins_with 34 octets ≡ true
value_begins [] octets rest h e = absurd (let k : 0 ≡ 28 = date_length [] h in omega arith)
value_begins (a ∷ r) octets rest h e = ap (begins_with 34) e ∙ ap (λ c. eqb c 34) (quote_first a r h)

pub date_begins : (value octets rest : List ℕ) → HasPrefix (date_time value) octets rest → begins_with 34 octets ≡ true
date_begins value octets rest f = elim f.1.1 [
  | inl same ↦ value_begins value octets rest f.1.0 (f.2 ∙ ap (λ xs. xs ++ rest) same)
  | inr spaced ↦ ap (begins_with 34) (f.2 ∙ ap (λ xs. xs ++ rest) spaced.2)
]
