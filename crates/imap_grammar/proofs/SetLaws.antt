-- Numbers and sequence sets.
use Rattle.std.proofs.Common.{◌≡◌, ℕ, ◌≤◌, true, false, cond, not, ◌||◌, nat_lt, List, [], ◌∷◌, ◌++◌, Some, None, inl, inr, ap, sym, ◌∙◌, refl, subst, arith, eqb}
use Rattle.std.specs.List.{list_all}
use Rattle.std.proofs.lemmas.Bool.{and_parts, eqb-true, ltb-false, le-ltb, or_parts}
use Rattle.std.proofs.lemmas.Bool.Decides.{nat_tests}
use Rattle.imap_types.specs.declared.sequence_set.SequenceBound.{SequenceBound}
use Rattle.imap_types.specs.declared.sequence_set.SequenceBound.TheVariants.{Number, Greatest}
use Rattle.imap_types.specs.declared.sequence_set.SequenceRange.{SequenceRange}
use Rattle.imap_syntax.specs.Faults.{begins_with_class}
use Rattle.imap_syntax.specs.Languages.{exactly}
use Rattle.imap_grammar.specs.Reading.{◌>>=◌, bound_at, map_read, number_at, nz_at, range_at, ranged_at, run_at, set_at}
use Rattle.imap_syntax.specs.Sets.{bound, range, sequence_set}
use Rattle.imap_syntax.specs.Strings.{begins_with, is_in, is_pattern_octet, number_of, number_to, nz, run}
use Rattle.imap_syntax.specs.declared.octet_class.OctetClass.TheVariants.{Digit}
use Rattle.imap_grammar.proofs.ReaderLaws.{HasPrefix, IsReader, IsWordEnd, bind_some, chosen, exactly_is, guarded, joined, parts_around, some_is}
use Rattle.imap_grammar.proofs.Lists.{listed_reads}
use Rattle.imap_grammar.proofs.Spans.{run_sound, run_complete, ends_stop}

abbrev pub NoDigit : List ℕ → Type 0
NoDigit rest = begins_with_class Digit rest ≡ false

pub number_reads : (limit : ℕ) → IsReader (number_at limit) (number_to limit) NoDigit
number_reads limit = record {
  sound = λ octets x h.
      let a = bind_some (run_at Digit octets) _ x h in
      let g = guarded (nat_lt limit (number_of 0 a.0.0)) (Some (number_of 0 a.0.0, a.0.1)) x a.2 in
      let f = run_sound Digit octets a.0 a.1 in
      let le : number_of 0 a.0.0 ≤ limit = ltb-false _ _ g.0 in
      subst (λ (y : ℕ × List ℕ). HasPrefix (number_to limit y.0) octets y.1) (some_is (number_of 0 a.0.0, a.0.1) x g.1) (f.0, ((a.0.0, f.1, refl), le), f.2);
  complete = λ octets rest value f s.
      let digits : List ℕ = f.1.0.0 in
      let r = run_complete Digit octets rest digits (f.0, f.1.0.1, f.2) s in
      let is : number_of 0 digits ≡ value = f.1.0.2 in
      let le : nat_lt limit (number_of 0 digits) ≡ false = le-ltb _ _ (let k : value ≤ limit = f.1.1 in omega arith) in
      ap (λ r. r >>= λ digits. cond (nat_lt limit (number_of 0 digits.0)) None (Some (number_of 0 digits.0, digits.1))) r
      ∙ ap (λ b. cond b None (Some (number_of 0 digits, rest))) le ∙ ap (λ n. Some (n, rest)) is;
}

pub nz_reads : IsReader nz_at nz NoDigit
nz_reads = record {
  sound = λ octets x h.
      let a = bind_some (run_at Digit octets) _ x h in
      let g = guarded (begins_with 48 a.0.0 || nat_lt 4294967295 (number_of 0 a.0.0)) (Some (number_of 0 a.0.0, a.0.1)) x a.2 in
      let f = run_sound Digit octets a.0 a.1 in
      let p = or_parts (begins_with 48 a.0.0) (nat_lt 4294967295 (number_of 0 a.0.0)) g.0 in
      let le : number_of 0 a.0.0 ≤ 4294967295 = ltb-false _ _ p.1 in
      let zero_free : begins_with 48 f.0 ≡ false = ap (begins_with 48) f.1.2 ∙ p.0 in
      subst (λ (y : ℕ × List ℕ). HasPrefix (nz y.0) octets y.1) (some_is (number_of 0 a.0.0, a.0.1) x g.1) (f.0, ((a.0.0, f.1, refl), zero_free, le), f.2);
  complete = λ octets rest value f s.
      let digits : List ℕ = f.1.0.0 in
      let r = run_complete Digit octets rest digits (f.0, f.1.0.1, f.2) s in
      let is : number_of 0 digits ≡ value = f.1.0.2 in
      let le : nat_lt 4294967295 (number_of 0 digits) ≡ false = le-ltb _ _ (let k : value ≤ 4294967295 = f.1.2 in omega arith) in
      let zero_free : begins_with 48 digits ≡ false = ap (begins_with 48) (sym f.1.0.1.2) ∙ f.1.1 in
      ap (λ r. r >>= λ digits. cond (begins_with 48 digits.0 || nat_lt 4294967295 (number_of 0 digits.0)) None (Some (number_of 0 digits.0, digits.1))) r
      ∙ ap (λ b. cond (b || nat_lt 4294967295 (number_of 0 digits)) None (Some (number_of 0 digits, rest))) zero_free
      ∙ ap (λ b. cond b None (Some (number_of 0 digits, rest))) le ∙ ap (λ n. Some (n, rest)) is;
}

bound_sound : (octets : List ℕ) (x : SequenceBound × List ℕ) → bound_at octets ≡ Some x → HasPrefix (bound x.0) octets x.1
bound_sound [] x h = cc
bound_sound (b ∷ bs) x h =
    elim (chosen (eqb b 42) (Some (Greatest, bs)) (map_read Number nz_at (b ∷ bs)) (Some x) h) [
      | inl t ↦ subst (λ (y : SequenceBound × List ℕ). HasPrefix (bound y.0) (b ∷ bs) y.1) (some_is (Greatest, bs) x t.1) (42 ∷ [], refl, ap (λ c. c ∷ bs) (eqb-true b 42 t.0))
      | inr f ↦
          let a = bind_some (nz_at (b ∷ bs)) _ x f.1 in
          subst (λ (y : SequenceBound × List ℕ). HasPrefix (bound y.0) (b ∷ bs) y.1) (some_is (Number a.0.0, a.0.1) x a.2) (nz_reads.sound (b ∷ bs) a.0 a.1)
    ]

digit_no_star : (b : ℕ) → is_in Digit b ≡ true → eqb b 42 ≡ false
digit_no_star b h = grind (arith, nat_tests)

digit_first : (b : ℕ) (bs rest octets : List ℕ) → list_all (is_in Digit) (b ∷ bs) ≡ true → octets ≡ (b ∷ bs) ++ rest → bound_at octets ≡ map_read Number nz_at octets
digit_first b bs rest octets h e =
    let p = and_parts (is_in Digit b) (list_all (is_in Digit) bs) h in
    ap bound_at e ∙ ap (λ c. cond c (Some (Greatest, bs ++ rest)) (map_read Number nz_at (b ∷ (bs ++ rest)))) (digit_no_star b p.0) ∙ ap (map_read Number nz_at) (sym e)

first_digit : (octets text digits rest : List ℕ) → run Digit digits text → octets ≡ text ++ rest → bound_at octets ≡ map_read Number nz_at octets
first_digit octets text [] rest r e = absurd (r.0 refl)
first_digit octets text (b ∷ bs) rest r e = digit_first b bs rest octets r.1 (e ∙ ap (λ xs. xs ++ rest) r.2)

bound_number : (octets rest : List ℕ) (n : ℕ) → HasPrefix (nz n) octets rest → bound_at octets ≡ map_read Number nz_at octets
bound_number octets rest n f = first_digit octets f.0 f.1.0.0 rest f.1.0.1 f.2

bound_complete : (value : SequenceBound) (octets rest : List ℕ) → HasPrefix (bound value) octets rest → NoDigit rest → bound_at octets ≡ Some (value, rest)
bound_complete (Number n) octets rest f s = bound_number octets rest n f ∙ ap (λ r. r >>= λ first. Some (Number first.0, first.1)) (nz_reads.complete octets rest n f s)
bound_complete Greatest octets rest f s = ap bound_at (exactly_is (42 ∷ []) octets rest f)

-- the rest begins with neither a digit nor `:`
abbrev pub NoRange : List ℕ → Type 0
NoRange rest = NoDigit rest × (begins_with 58 rest ≡ false)

ranged_sound : (low : SequenceBound) (octets mid : List ℕ) (x : SequenceRange × List ℕ) → HasPrefix (bound low) octets mid → ranged_at low mid ≡ Some x → HasPrefix (range x.0) octets x.1
ranged_sound low octets [] x f h =
    subst (λ (y : SequenceRange × List ℕ). HasPrefix (range y.0) octets y.1) (some_is (record { first = low; last = low }, []) x h) (f.0, inr (f.1, refl), f.2)
ranged_sound low octets (b ∷ bs) x f h =
    elim (chosen (eqb b 58) (bound_at bs >>= λ high. Some (record { first = low; last = high.0 }, high.1)) (Some (record { first = low; last = low }, b ∷ bs)) (Some x) h) [
      | inl t ↦
          let a = bind_some (bound_at bs) _ x t.1 in
          let made_range : SequenceRange = record { first = low; last = a.0.0 } in
          let colon : HasPrefix (exactly (58 ∷ [])) (b ∷ bs) bs = (58 ∷ [], refl, ap (λ c. c ∷ bs) (eqb-true b 58 t.0)) in
          let j = joined (bound low) _ octets (b ∷ bs) a.0.1 f (joined (exactly (58 ∷ [])) (bound a.0.0) (b ∷ bs) bs a.0.1 colon (bound_sound bs a.0 a.1)) in
          subst (λ (y : SequenceRange × List ℕ). HasPrefix (range y.0) octets y.1) (some_is (made_range, a.0.1) x a.2) (j.0, inl j.1, j.2)
      | inr n ↦ subst (λ (y : SequenceRange × List ℕ). HasPrefix (range y.0) octets y.1) (some_is (record { first = low; last = low }, b ∷ bs) x n.1) (f.0, inr (f.1, refl), f.2)
    ]

ranged_of_one : (low : SequenceBound) (rest : List ℕ) → begins_with 58 rest ≡ false → ranged_at low rest ≡ Some (record { first = low; last = low }, rest)
ranged_of_one low [] h = refl
ranged_of_one low (b ∷ bs) h = ap (λ c. cond c (bound_at bs >>= λ high. Some (record { first = low; last = high.0 }, high.1)) (Some (record { first = low; last = low }, b ∷ bs))) h

range_complete : (value : SequenceRange) (octets rest : List ℕ) → HasPrefix (range value) octets rest → NoRange rest → range_at octets ≡ Some (value, rest)
range_complete value octets rest f s = elim f.1 [
  | inl two ↦
      let p = parts_around (bound value.first) _ octets rest (f.0, two, f.2) in
      let q = parts_around (exactly (58 ∷ [])) (bound value.last) p.0 rest p.2 in
      let colon : p.0 ≡ 58 ∷ q.0 = exactly_is (58 ∷ []) p.0 q.0 q.1 in
      ap (λ r. r >>= λ low. ranged_at low.0 low.1) (bound_complete value.first octets p.0 p.1 (ap (begins_with_class Digit) colon))
      ∙ ap (ranged_at value.first) colon
      ∙ ap (λ r. r >>= λ high. Some (record { first = value.first; last = high.0 }, high.1)) (bound_complete value.last q.0 rest q.2 s.0)
  | inr one ↦
      let k : ◌≡◌ {A = SequenceRange} (record { first = value.first; last = value.first }) value = ap (λ l. record { first = value.first; last = l }) one.1 in
      ap (λ r. r >>= λ low. ranged_at low.0 low.1) (bound_complete value.first octets rest (f.0, one.0, f.2) s.0)
      ∙ ranged_of_one value.first rest s.1
      ∙ ap (λ v. Some (v, rest)) k
]

pub range_reads : IsReader range_at range NoRange
range_reads = record {
  sound = λ octets x h. let a = bind_some (bound_at octets) _ x h in ranged_sound a.0.0 octets a.0.1 x (bound_sound octets a.0 a.1) a.2;
  complete = λ octets rest value f s. range_complete value octets rest f s;
}

end_no_comma : (b : ℕ) → not (is_pattern_octet b) ≡ true → eqb b 44 ≡ false
end_no_comma b h = grind (arith, nat_tests)

ends_no_comma : (rest : List ℕ) → IsWordEnd rest → begins_with 44 rest ≡ false
ends_no_comma [] h = refl
ends_no_comma (b ∷ bs) h = end_no_comma b h

end_no_colon : (b : ℕ) → not (is_pattern_octet b) ≡ true → eqb b 58 ≡ false
end_no_colon b h = grind (arith, nat_tests)

ends_no_colon : (rest : List ℕ) → IsWordEnd rest → begins_with 58 rest ≡ false
ends_no_colon [] h = refl
ends_no_colon (b ∷ bs) h = end_no_colon b h

pub set_reads : IsReader set_at sequence_set IsWordEnd
set_reads = listed_reads 44 range_reads IsWordEnd ends_no_comma (λ rest s. (ends_stop Digit rest s, ends_no_colon rest s)) (λ octets. (refl, refl))
