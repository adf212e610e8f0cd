use Rattle.std.proofs.Common.{◌≡◌, ◌≢◌, inl, inr, ℕ, ◌+◌, ◌-◌, ◌<◌, ◌≤◌, max, Bool, true, false, not, cond, List, [], ◌∷◌, ◌++◌, Option, Some, suc, zero, length, take, drop, slice_get, append_assoc, append-nil, sym, refl, ap, ◌∙◌, subst, arith}
use Rattle.std.proofs.lemmas.Bool.{and_parts, cases_Bool, cases_lt, leb-true, ltb-true}
use Rattle.std.proofs.lemmas.Bool.Decides.{eqb_tells}
use Rattle.std.proofs.lemmas.List.{take-append-drop, take-take}
use Rattle.std.proofs.lemmas.List.Elements.{filter-append}
use Rattle.std.specs.List.{filter}
use Rattle.tags_clocks.specs.declared.id.OpId.{OpId}
use Rattle.tags_clocks.specs.Clock.{IsCause, IsRaised, count_of}
use Rattle.merge_laws.specs.Orders.{IsIn, HasId, IsCausal}
use Rattle.merge_laws.proofs.Causal.{causal_front}
use Rattle.merge_laws.proofs.Lists.{id_in_back, split_at}
use Rattle.causal_inbox.specs.InboxState.{IsNextId, id_numbers}
use Rattle.causal_inbox.specs.Inbox.{is_cause, uncovered_ops}
use Rattle.causal_inbox.proofs.Gapless.{cause_test, in_take, left_out, none_uncovered, same_ids}

-- ---- filters

filter_alike : {X : Type 0} (f g : X → Bool) (xs : List X) → ((x : X) → IsIn x xs → f x ≡ g x) → filter f xs ≡ filter g xs
filter_alike f g [] h = refl
filter_alike f g (x ∷ xs) h =
    ap (λ (b : Bool). cond b (x ∷ filter f xs) (filter f xs)) (h x (inl refl)) ∙ ap (λ (ys : List _). cond (g x) (x ∷ ys) ys) (filter_alike f g xs (λ y t. h y (inr t)))

nonempty : {X : Type 0} (x : X) (xs : List X) → x ∷ xs ≢ []
nonempty x xs e = absurd cc

none_passes : {X : Type 0} (f : X → Bool) (xs : List X) (x : X) → filter f xs ≡ [] → IsIn x xs → f x ≡ false
none_passes f (y ∷ xs) x e h = elim (cases_Bool (f y)) [
  | inl t ↦ absurd (nonempty y (filter f xs) (rw t at e))
  | inr n ↦
      let more : filter f xs ≡ [] = rw n at e in
      elim h [ inl q ↦ subst (λ (z : _). f z ≡ false) q n | inr t ↦ none_passes f xs x more t ]
]
none_passes f [] x e h = absurd h

passes : {X : Type 0} (f : X → Bool) (x : X) (xs : List X) → f x ≡ true → filter f (x ∷ xs) ≡ x ∷ filter f xs
passes f x xs e = ap (λ (b : Bool). cond b (x ∷ filter f xs) (filter f xs)) e

not_true : (b : Bool) → not b ≡ false → b ≡ true
not_true true e = refl
not_true false e = absurd cc

-- ---- the first elements of a list

take_all : {X : Type 0} (n : ℕ) (xs : List X) → length xs ≤ n → take n xs ≡ xs
take_all zero [] l = refl
take_all (suc n) [] l = refl
take_all zero (x ∷ xs) l = absurd (omega (arith, l))
take_all (suc n) (x ∷ xs) l = ap (λ ys. x ∷ ys) (take_all n xs (omega (arith, l)))

take_nil : {X : Type 0} (n : ℕ) → take {A = X} n [] ≡ []
take_nil zero = refl
take_nil (suc n) = refl

length_filter : {X : Type 0} (f : X → Bool) (xs : List X) → length (filter f xs) ≤ length xs
length_filter f [] = omega arith
length_filter f (x ∷ xs) =
    let more = length_filter f xs in
    elim (cases_Bool (f x)) [
      | inl t ↦ rw t (omega (arith, more))
      | inr n ↦ rw n (omega (arith, more))
    ]

same_some : {X : Type 0} (x y : X) → ◌≡◌ {A = Option X} (Some x) (Some y) → x ≡ y
same_some x y e = cc

take_cut : {X : Type 0} (at n : ℕ) (xs : List X) (x : X) → at < n → slice_get xs at ≡ Some x → (back : List X) × (take n xs ≡ take at xs ++ x ∷ back)
take_cut at n [] x l e = absurd cc
take_cut zero zero (y ∷ xs) x l e = absurd (omega (arith, l))
take_cut zero (suc n) (y ∷ xs) x l e = (take n xs, ap (λ z. z ∷ take n xs) (same_some y x e))
take_cut (suc at) zero (y ∷ xs) x l e = absurd (omega (arith, l))
take_cut (suc at) (suc n) (y ∷ xs) x l e = let m = take_cut at n xs x (omega (arith, l)) e in (m.0, ap (λ ys. y ∷ ys) m.1)

-- ---- the test of a cause

cause_of_test : (clock : List (ℕ × ℕ)) (i : OpId) → is_cause clock i ≡ true → IsCause clock i
cause_of_test clock i t =
    let parts = and_parts _ _ t in
    (ltb-true 0 i.number parts.0, leb-true i.number (count_of clock i.replica) parts.1)

same_test : (one other : List (ℕ × ℕ)) (i : OpId) → (IsCause one i → IsCause other i) → (IsCause other i → IsCause one i) → is_cause one i ≡ is_cause other i
same_test one other i up down = elim (cases_Bool (is_cause one i)) [
  | inl t ↦ t ∙ sym (cause_test other i (up (cause_of_test one i t)))
  | inr f ↦ elim (cases_Bool (is_cause other i)) [
    | inl u ↦ let k = cause_test one i (down (cause_of_test other i u)) in absurd (cc (k, f))
    | inr g ↦ f ∙ sym g
  ]
]

not_cause : (clock : List (ℕ × ℕ)) (i : OpId) → count_of clock i.replica < i.number → is_cause clock i ≡ false
not_cause clock i l = elim (cases_Bool (is_cause clock i)) [
  | inl t ↦ let high = (cause_of_test clock i t).1 in absurd (omega (arith, high, l))
  | inr f ↦ f
]

-- ---- a clock raised by the first operation that it doesn't cover

module _ (covered next : List (ℕ × ℕ)) (first : OpId) (number : first.number ≡ count_of covered first.replica + 1) (raised : IsRaised covered first.replica first.number next) where
  counts_first : count_of next first.replica ≡ first.number
  counts_first = elim (eqb_tells first.replica first.replica) [
    | inl t ↦ let at = raised first.replica in let k : count_of next first.replica ≡ max (count_of covered first.replica) first.number = rw t.0 at at in omega (arith, k, number)
    | inr n ↦ absurd (n.1 refl)
  ]

  counts_other : (r : ℕ) → r ≢ first.replica → count_of next r ≡ count_of covered r
  counts_other r apart = elim (eqb_tells r first.replica) [
    | inl t ↦ absurd (apart t.1)
    | inr n ↦ let at = raised r in rw n.0 at at
  ]

  still_cause : (i : OpId) → IsCause covered i → IsCause next i
  still_cause i c = elim (eqb_tells i.replica first.replica) [
    | inl t ↦
        let same : count_of next i.replica ≡ first.number = ap (count_of next) t.1 ∙ counts_first in
        let before : count_of covered i.replica ≡ count_of covered first.replica = ap (count_of covered) t.1 in
        let high = c.1 in
        (c.0, omega (arith, same, before, high, number))
    | inr n ↦ (c.0, subst (λ (k : ℕ). i.number ≤ k) (sym (counts_other i.replica n.1)) c.1)
  ]

  cause_of_next : (i : OpId) → first ≢ i → IsCause next i → IsCause covered i
  cause_of_next i apart c = elim (eqb_tells i.replica first.replica) [
    | inl t ↦
        let same : count_of next i.replica ≡ first.number = ap (count_of next) t.1 ∙ counts_first in
        let before : count_of covered i.replica ≡ count_of covered first.replica = ap (count_of covered) t.1 in
        let high = c.1 in
        elim (cases_lt (count_of covered i.replica) i.number) [
          | inl l ↦
              let q : first.number ≡ i.number = omega (arith, same, before, high, number, l) in
              absurd (apart (same_ids first i (sym t.1) q))
          | inr m ↦ (c.0, m)
        ]
    | inr n ↦ (c.0, subst (λ (k : ℕ). i.number ≤ k) (counts_other i.replica n.1) c.1)
  ]

module _ {O : Type 0} (id : O → OpId) (clock : O → List (ℕ × ℕ)) where
  -- in a causal list no operation after another has its id
  id_after : (front back : List O) (o p : O) → IsCausal id clock (front ++ o ∷ back) → IsIn p back → id o ≢ id p
  id_after front back o p causal h e =
      let s = split_at p back h in
      let cut : front ++ o ∷ back ≡ (front ++ o ∷ s.0) ++ p ∷ s.1 = ap (λ (xs : List O). front ++ o ∷ xs) s.2 ∙ sym (append_assoc front (o ∷ s.0) (p ∷ s.1)) in
      (causal (front ++ o ∷ s.0) p s.1 cut).1 (id_in_back id (id p) front (o ∷ s.0) (inl e))

  uncovered_front : (covered : List (ℕ × ℕ)) (front : List O) (o : O) → uncovered_ops id covered front ≡ [] → IsIn o front → IsCause covered (id o)
  uncovered_front covered front o none h = cause_of_test covered (id o) (not_true _ (none_passes (λ (p : O). not (is_cause covered (id p))) front o none h))

  -- the clock raised by its first uncovered operation leaves the others uncovered
  pub uncovered_raised : (applied : List O) (covered next : List (ℕ × ℕ)) (at within : ℕ) (o : O) → IsCausal id clock applied → at < within → slice_get applied at ≡ Some o → uncovered_ops id covered (take at applied) ≡ [] → IsNextId covered (id_numbers id o) → IsRaised covered (id o).replica (id o).number next → uncovered_ops id covered (take within applied) ≡ o ∷ uncovered_ops id next (take within applied)
  uncovered_raised applied covered next at within o causal l member none number raised =
      let all = take within applied in
      let test = λ (p : O). not (is_cause covered (id p)) in
      let test_next = λ (p : O). not (is_cause next (id p)) in
      let parts = take_cut at within applied o l member in
      let back : List O = parts.0 in
      let cut : all ≡ take at applied ++ o ∷ back = parts.1 in
      let causal_all : IsCausal id clock (take at applied ++ o ∷ back) = subst (IsCausal id clock) cut (causal_front id clock all (drop within applied) (subst (IsCausal id clock) (sym (take-append-drop within applied)) causal)) in
      let low : is_cause covered (id o) ≡ false = not_cause covered (id o) (omega (arith, number)) in
      let now : is_cause next (id o) ≡ true = let c = counts_first covered next (id o) number raised in cause_test next (id o) (omega (arith, number), omega (arith, c)) in
      let alike : uncovered_ops id covered back ≡ uncovered_ops id next back =
      filter_alike test test_next back (λ p h. ap not (same_test covered next (id p) (still_cause covered next (id o) number raised (id p)) (cause_of_next covered next (id o) number raised (id p) (id_after (take at applied) back o p causal_all h)))) in
      let none_next : uncovered_ops id next (take at applied) ≡ [] =
      none_uncovered id next (take at applied) (λ p h. still_cause covered next (id o) number raised (id p) (uncovered_front covered (take at applied) p none h)) in
      let before : uncovered_ops id covered all ≡ o ∷ uncovered_ops id covered back =
      ap (uncovered_ops id covered) cut
      ∙ filter-append test (take at applied) (o ∷ back)
      ∙ ap (λ (xs : List O). xs ++ uncovered_ops id covered (o ∷ back)) none
      ∙ passes test o back (ap not low) in
      let after : uncovered_ops id next all ≡ uncovered_ops id next back =
      ap (uncovered_ops id next) cut
      ∙ filter-append test_next (take at applied) (o ∷ back)
      ∙ ap (λ (xs : List O). xs ++ uncovered_ops id next (o ∷ back)) none_next
      ∙ left_out (is_cause next (id o)) o (uncovered_ops id next back) now in
      before ∙ ap (λ (xs : List O). o ∷ xs) (alike ∙ sym after)

  -- if none of the first operations is uncovered, none of fewer first ones is
  pub none_within : (applied : List O) (covered : List (ℕ × ℕ)) (at within : ℕ) → uncovered_ops id covered (take at applied) ≡ [] → within ≤ at → uncovered_ops id covered (take within applied) ≡ []
  none_within applied covered at within none l =
      let front : take within (take at applied) ≡ take within applied = take-take within at applied l in
      none_uncovered id covered (take within applied) (λ p h. uncovered_front covered (take at applied) p none (in_take p within (take at applied) (subst (IsIn p) (sym front) h)))

  pub none_to_end : (applied : List O) (covered : List (ℕ × ℕ)) (at within : ℕ) → uncovered_ops id covered (take at applied) ≡ [] → length applied ≤ at → uncovered_ops id covered (take within applied) ≡ []
  none_to_end applied covered at within none l =
      none_uncovered id covered (take within applied) (λ p h. uncovered_front covered (take at applied) p none (subst (IsIn p) (sym (take_all at applied l)) (in_take p within applied h)))

  -- the copies made so far, with the next one, and the operations still uncovered
  pub copies_next : (applied copies : List O) (clock_then covered next : List (ℕ × ℕ)) (at within limit counter : ℕ) (o : O) → IsCausal id clock applied → at < within → slice_get applied at ≡ Some o → uncovered_ops id covered (take at applied) ≡ [] → IsNextId covered (id_numbers id o) → IsRaised covered (id o).replica (id o).number next → counter < limit → copies ++ take (limit - counter) (uncovered_ops id covered (take within applied)) ≡ take limit (uncovered_ops id clock_then (take within applied)) → (copies ++ o ∷ []) ++ take (limit - (counter + 1)) (uncovered_ops id next (take within applied)) ≡ take limit (uncovered_ops id clock_then (take within applied))
  copies_next applied copies clock_then covered next at within limit counter o causal l member none number raised below rest =
      let more = uncovered_ops id next (take within applied) in
      let step : uncovered_ops id covered (take within applied) ≡ o ∷ more = uncovered_raised applied covered next at within o causal l member none number raised in
      let count : limit - counter ≡ suc (limit - (counter + 1)) = omega (arith, below) in
      append_assoc copies (o ∷ []) (take (limit - (counter + 1)) more)
      ∙ ap (λ (n : ℕ). copies ++ take n (o ∷ more)) (sym count)
      ∙ ap (λ (xs : List O). copies ++ take (limit - counter) xs) (sym step)
      ∙ rest

  -- the copies are all if none is uncovered
  pub copies_end : (applied copies : List O) (clock_then covered : List (ℕ × ℕ)) (within limit n : ℕ) → uncovered_ops id covered (take within applied) ≡ [] → copies ++ take n (uncovered_ops id covered (take within applied)) ≡ take limit (uncovered_ops id clock_then (take within applied)) → copies ≡ take limit (uncovered_ops id clock_then (take within applied))
  copies_end applied copies clock_then covered within limit n none rest =
      sym (append-nil copies) ∙ ap (λ (xs : List O). copies ++ xs) (sym (take_nil n)) ∙ ap (λ (xs : List O). copies ++ take n xs) (sym none) ∙ rest

  -- all uncovered ones are within the length of the list
  pub uncovered_within : (applied : List O) (clock_then : List (ℕ × ℕ)) (n : ℕ) → n ≡ length applied → take n (uncovered_ops id clock_then (take n applied)) ≡ uncovered_ops id clock_then applied
  uncovered_within applied clock_then n e =
      let all : take n applied ≡ applied = take_all n applied (omega (arith, e)) in
      let few : length (uncovered_ops id clock_then applied) ≤ length applied = length_filter (λ (p : O). not (is_cause clock_then (id p))) applied in
      ap (λ (xs : List O). take n (uncovered_ops id clock_then xs)) all ∙ take_all n (uncovered_ops id clock_then applied) (omega (arith, e, few))
