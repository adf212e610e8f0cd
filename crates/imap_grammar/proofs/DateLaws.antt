-- Days, as the keys of SEARCH write them.
use Rattle.std.proofs.Common.{◌≡◌, ℕ, ◌≤◌, true, false, cond, ◌||◌, nat_lt, List, [], ◌∷◌, ◌++◌, Option, Some, None, length, inl, inr, ap, sym, ◌∙◌, refl, subst, arith, eqb}
use Rattle.std.proofs.lemmas.Bool.{and_parts, eqb-true, le-ltb, ltb-false, or_parts}
use Rattle.std.proofs.lemmas.Bool.Decides.{nat_tests}
use Rattle.std.specs.List.{list_all}
use Rattle.imap_types.specs.DateTimes.{is_digit, month_of}
use Rattle.imap_types.specs.declared.day.Day.{Day}
use Rattle.imap_syntax.specs.Dates.{date, date_text, day_of_month, digits_to, hyphen, month_name, quote, year_number}
use Rattle.imap_grammar.specs.Reading.{after, before, date_at, date_parts_at, date_text_at, digits_at, hyphened, is_date, month_name_at, octets_at, run_at, ◌>>=◌}
use Rattle.imap_syntax.specs.Faults.{begins_with_class}
use Rattle.imap_syntax.specs.Languages.{◌⌢◌}
use Rattle.imap_syntax.specs.Strings.{begins_with, is_in, number_of, run}
use Rattle.imap_syntax.specs.declared.octet_class.OctetClass.TheVariants.{Digit}
use Rattle.imap_grammar.proofs.DateTimeLaws.{date_from, date_to}
use Rattle.imap_grammar.proofs.ReaderLaws.{IsWordEnd, HasPrefix, IsReader, after_complete, after_sound, bind_some, both_reads, chosen, exactly_is, guarded, joined, map_reads, parts_around, some_is}
use Rattle.imap_grammar.proofs.SetLaws.{NoDigit}
use Rattle.imap_grammar.proofs.Spans.{ends_stop, run_complete, run_sound}
use Rattle.imap_grammar.proofs.Texts.{octets_complete, octets_sound}

digits_reads : (least most limit : ℕ) → IsReader (digits_at least most limit) (digits_to least most limit) NoDigit
digits_reads least most limit = record {
  sound = λ octets x h.
      let a = bind_some (run_at Digit octets) _ x h in
      let g = guarded (nat_lt (length a.0.0) least || (nat_lt most (length a.0.0) || nat_lt limit (number_of 0 a.0.0))) (Some (number_of 0 a.0.0, a.0.1)) x a.2 in
      let p = or_parts (nat_lt (length a.0.0) least) (nat_lt most (length a.0.0) || nat_lt limit (number_of 0 a.0.0)) g.0 in
      let q = or_parts (nat_lt most (length a.0.0)) (nat_lt limit (number_of 0 a.0.0)) p.1 in
      let f = run_sound Digit octets a.0 a.1 in
      let same : length f.0 ≡ length a.0.0 = ap length f.1.2 in
      let long : least ≤ length a.0.0 = ltb-false _ _ p.0 in
      let short : length a.0.0 ≤ most = ltb-false _ _ q.0 in
      let le : number_of 0 a.0.0 ≤ limit = ltb-false _ _ q.1 in
      let low : least ≤ length f.0 = omega arith in
      let high : length f.0 ≤ most = omega arith in
      subst (λ (y : ℕ × List ℕ). HasPrefix (digits_to least most limit y.0) octets y.1) (some_is (number_of 0 a.0.0, a.0.1) x g.1) (f.0, (((a.0.0, f.1, refl), le), low, high), f.2);
  complete = λ octets rest value f s.
      let digits : List ℕ = f.1.0.0.0 in
      let r = run_complete Digit octets rest digits (f.0, f.1.0.0.1, f.2) s in
      let is : number_of 0 digits ≡ value = f.1.0.0.2 in
      let same : length f.0 ≡ length digits = ap length f.1.0.0.1.2 in
      let low : nat_lt (length digits) least ≡ false = le-ltb _ _ (let k : least ≤ length f.0 = f.1.1 in omega arith) in
      let high : nat_lt most (length digits) ≡ false = le-ltb _ _ (let k : length f.0 ≤ most = f.1.2 in omega arith) in
      let le : nat_lt limit (number_of 0 digits) ≡ false = le-ltb _ _ (let k : value ≤ limit = f.1.0.1 in omega arith) in
      ap (λ r. r >>= λ digits. cond (nat_lt (length digits.0) least || (nat_lt most (length digits.0) || nat_lt limit (number_of 0 digits.0))) None (Some (number_of 0 digits.0, digits.1))) r
      ∙ ap (λ b. cond (b || (nat_lt most (length digits) || nat_lt limit (number_of 0 digits))) None (Some (number_of 0 digits, rest))) low
      ∙ ap (λ b. cond (b || nat_lt limit (number_of 0 digits)) None (Some (number_of 0 digits, rest))) high
      ∙ ap (λ b. cond b None (Some (number_of 0 digits, rest))) le ∙ ap (λ n. Some (n, rest)) is;
}

three_reads : IsReader (octets_at 3) (λ value text. (length value ≡ 3) × (text ≡ value)) (λ rest. Unit {0})
three_reads = record {
  sound = λ octets x h. let t = octets_sound 3 octets x h in (x.0, (t.0, refl), t.1);
  complete = λ octets rest value f s.
      let e : octets ≡ value ++ rest = f.2 ∙ ap (λ xs. xs ++ rest) f.1.1 in
      ap (λ n. octets_at n octets) (sym f.1.0) ∙ ap (octets_at (length value)) e ∙ octets_complete value rest;
}

month_reads : IsReader month_name_at month_name (λ rest. Unit {0})
month_reads = map_reads three_reads month_of month_name (λ value text h. (ap length h.1 ∙ h.0, ap month_of h.1)) (λ it text h. (text, (h.0, refl), h.1))

hyphened_reads : {A : Type 0} {read : List ℕ → Option (A × List ℕ)} {form : A → List ℕ → Type 0} {stops : List ℕ → Type 0} → IsReader read form stops → IsReader (hyphened read) (λ value. hyphen ⌢ form value) stops
hyphened_reads {A} {read} {form} {stops} reads = record {
  sound = λ octets x h.
      let a = bind_some (after (45 ∷ []) octets) read x h in
      joined hyphen (form x.0) octets a.0 x.1 (after_sound (45 ∷ []) octets a.0 a.1) (reads.sound a.0 x a.2);
  complete = λ octets rest value f s.
      let p = parts_around hyphen (form value) octets rest f in
      ap (λ r. r >>= read) (after_complete (45 ∷ []) octets p.0 p.1) ∙ reads.complete p.0 rest value p.2 s;
}

hyphen_no_digit : (Q : List ℕ → Type 0) (octets rest : List ℕ) → HasPrefix (hyphen ⌢ Q) octets rest → NoDigit octets
hyphen_no_digit Q octets rest f =
    let p = parts_around hyphen Q octets rest f in
    ap (begins_with_class Digit) (exactly_is (45 ∷ []) octets p.0 p.1)

parts_reads : IsReader date_parts_at (λ p. day_of_month p.0 ⌢ hyphen ⌢ month_name p.1.0 ⌢ hyphen ⌢ year_number p.1.1) NoDigit
parts_reads =
    both_reads (digits_reads 1 2 31) (hyphened_reads (both_reads month_reads (hyphened_reads (digits_reads 4 4 9999)) (λ octets rest value f s. tt)))
    (λ octets rest value f s. hyphen_no_digit _ octets rest f)

text_sound : (octets : List ℕ) (x : Day × List ℕ) → date_text_at octets ≡ Some x → HasPrefix (date_text x.0) octets x.1
text_sound octets x h =
    let a = bind_some (date_parts_at octets) _ x h in
    let f = parts_reads.sound octets a.0 a.1 in
    let map_read : Day = record { year = a.0.0.1.1; month = a.0.0.1.0; day = a.0.0.0 } in
    elim (chosen (is_date a.0.0.1.1 a.0.0.1.0 a.0.0.0) (Some (map_read, a.0.1)) None (Some x) a.2) [
      | inl t ↦ subst (λ (y : Day × List ℕ). HasPrefix (date_text y.0) octets y.1) (some_is (map_read, a.0.1) x t.1) (f.0, (f.1, date_from a.0.0.1.1 a.0.0.1.0 a.0.0.0 t.0), f.2)
      | inr n ↦ absurd cc
    ]

text_complete : (this : Day) (octets rest : List ℕ) → HasPrefix (date_text this) octets rest → NoDigit rest → date_text_at octets ≡ Some (this, rest)
text_complete this octets rest f s =
    let e = parts_reads.complete octets rest (this.day, (this.month, this.year)) (f.0, f.1.0, f.2) s in
    ap (λ r. r >>= λ parts. cond (is_date parts.0.1.1 parts.0.1.0 parts.0.0) (Some (record { year = parts.0.1.1; month = parts.0.1.0; day = parts.0.0 }, parts.1)) None) e
    ∙ ap (λ b. cond b (Some (this, rest)) None) (date_to this.year this.month this.day f.1.1)

date_sound : (octets : List ℕ) (x : Day × List ℕ) → date_at octets ≡ Some x → HasPrefix (date x.0) octets x.1
date_sound [] x h = cc
date_sound (b ∷ bs) x h =
    elim (chosen (eqb b 34) (before date_text_at (after (34 ∷ [])) bs) (date_text_at (b ∷ bs)) (Some x) h) [
      | inl t ↦
          let a = bind_some (date_text_at bs) _ x t.1 in
          let c = bind_some (after (34 ∷ []) a.0.1) _ x a.2 in
          let j = joined quote (date_text a.0.0 ⌢ quote) (b ∷ bs) bs c.0 (34 ∷ [], refl, ap (λ c. c ∷ bs) (eqb-true b 34 t.0)) (joined (date_text a.0.0) quote bs a.0.1 c.0 (text_sound bs a.0 a.1) (after_sound (34 ∷ []) a.0.1 c.0 c.1)) in
          subst (λ (y : Day × List ℕ). HasPrefix (date y.0) (b ∷ bs) y.1) (some_is (a.0.0, c.0) x c.2) (j.0, inr j.1, j.2)
      | inr n ↦ let f = text_sound (b ∷ bs) x n.1 in (f.0, inl f.1, f.2)
    ]

digit_no_quote : (b : ℕ) → is_digit b ≡ true → eqb b 34 ≡ false
digit_no_quote b h = grind (arith, nat_tests)

digits_first : (digits text octets rest : List ℕ) → run Digit digits text → octets ≡ text ++ rest → begins_with 34 octets ≡ false
digits_first [] text octets rest r e = absurd (r.0 refl)
digits_first (b ∷ bs) text octets rest r e =
    ap (begins_with 34) (e ∙ ap (λ xs. xs ++ rest) r.2) ∙ digit_no_quote b (and_parts (is_digit b) (list_all (is_in Digit) bs) r.1).0

text_first : (this : Day) (octets rest : List ℕ) → HasPrefix (date_text this) octets rest → begins_with 34 octets ≡ false
text_first this octets rest f =
    let p = parts_around (day_of_month this.day) _ octets rest (f.0, f.1.0, f.2) in
    digits_first p.1.1.0.0.0 p.1.0 octets p.0 p.1.1.0.0.1 p.1.2

unquoted : (octets : List ℕ) → begins_with 34 octets ≡ false → date_at octets ≡ date_text_at octets
unquoted [] h = refl
unquoted (b ∷ bs) h = ap (λ c. cond c (before date_text_at (after (34 ∷ [])) bs) (date_text_at (b ∷ bs))) h

date_complete : (this : Day) (octets rest : List ℕ) → HasPrefix (date this) octets rest → NoDigit rest → date_at octets ≡ Some (this, rest)
date_complete this octets rest f s = elim f.1 [
  | inl t ↦ unquoted octets (text_first this octets rest (f.0, t, f.2)) ∙ text_complete this octets rest (f.0, t, f.2) s
  | inr t ↦
      let p = parts_around quote (date_text this ⌢ quote) octets rest (f.0, t, f.2) in
      let q = parts_around (date_text this) quote p.0 rest p.2 in
      let close : q.0 ≡ 34 ∷ rest = exactly_is (34 ∷ []) q.0 rest q.2 in
      let inside : date_text_at p.0 ≡ Some (this, q.0) = text_complete this p.0 q.0 q.1 (ap (begins_with_class Digit) close) in
      ap date_at (exactly_is (34 ∷ []) octets p.0 p.1)
      ∙ ap (λ r. r >>= λ first. after (34 ∷ []) first.1 >>= λ rest. Some (first.0, rest)) inside
      ∙ ap (λ o. after (34 ∷ []) o >>= λ rest. Some (this, rest)) close
]

pub day_reads : IsReader date_at date IsWordEnd
day_reads = record { sound = date_sound; complete = λ octets rest value f s. date_complete value octets rest f (ends_stop Digit rest s) }
