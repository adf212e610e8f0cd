use Rattle.std.proofs.Common.{◌≡◌, ◌≢◌, ◌↔◌, ◌⊎◌, inl, inr, Bool, true, false, ℕ, ◌+◌, ◌<◌, ◌≤◌, suc, zero, Option, Some, None, List, [], ◌∷◌, ◌++◌, cond, length, map, insert, remove, slice_get, take, drop, sym, refl, ap, ◌∙◌, subst, arith}
use Rattle.std.proofs.lemmas.List.{take-append-drop}
use Rattle.std.proofs.lemmas.Option.{slice_get_within, get_or_from_slice_get}
use Rattle.tags_clocks.specs.declared.id.OpId.{OpId}
use Rattle.tags_clocks.specs.Clock.{IsCause}
use Rattle.merge_laws.specs.Orders.{IsIn, HasId, IsRipe}
use Rattle.merge_laws.proofs.Lists.{element_of_id, id_of_element, id_in_front, id_in_parts}
use Rattle.causal_inbox.specs.declared.cause_index.CauseEntry.{CauseEntry}
use Rattle.causal_inbox.specs.Inbox.{AreAscending, IsClockOf}
use Rattle.causal_inbox.specs.CauseIndex.{AreApart, AreIndexed, AreOrdered, IsAwaited, IsCauseIndex, IsIndexedBefore, IsIndexedUnder, IsReindexed, IsUnderOneOf}
use Rattle.causal_inbox.proofs.AscendingLemmas.{ascending_determines, cut_at}
use Rattle.causal_inbox.proofs.Ordered.{bool_of, inserted_same}
use Rattle.causal_inbox.proofs.EntryOrder.{same_cause_decided}
use Rattle.causal_inbox.proofs.Beyond.{awaited_by, awaited_least, has_decided}
use Rattle.causal_inbox.proofs.CauseIndexLemmas.{other_entries}

-- the number of entries under a cause
one_under : {P : Type 0} → P ⊎ (P → ⊥) → ℕ
one_under (inl p) = 1
one_under (inr n) = 0

pub under_count : Option OpId → List CauseEntry → ℕ
under_count c [] = 0
under_count c (f ∷ fs) = one_under (same_cause_decided f.cause c) + under_count c fs

one_at_most : {P : Type 0} (d : P ⊎ (P → ⊥)) → one_under d ≤ 1
unfolding one_under
one_at_most (inl p) = omega arith
one_at_most (inr n) = omega arith

one_if : {P : Type 0} (d : P ⊎ (P → ⊥)) → P → one_under d ≡ 1
unfolding one_under
one_if (inl p) q = refl
one_if (inr n) q = absurd (n q)

none_if : {P : Type 0} (d : P ⊎ (P → ⊥)) → (P → ⊥) → one_under d ≡ 0
unfolding one_under
none_if (inl p) n = absurd (n p)
none_if (inr m) n = refl

pub count_within : (c : Option OpId) (fs : List CauseEntry) → under_count c fs ≤ length fs
unfolding under_count
count_within c [] = omega arith
count_within c (f ∷ fs) = omega (arith, one_at_most (same_cause_decided f.cause c), count_within c fs)

pub none_counted : (c : Option OpId) (fs : List CauseEntry) → under_count c fs ≡ 0 → (f : CauseEntry) → IsIn f fs → f.cause ≢ c
unfolding under_count
none_counted c [] z f h e = h
none_counted c (g ∷ fs) z f h e = elim h [
  | inl q ↦ let w = one_if (same_cause_decided g.cause c) (ap (λ (y : CauseEntry). y.cause) q ∙ e) in omega (arith, z, w)
  | inr t ↦ none_counted c fs (omega (arith, z)) f t e
]

count_parts : (c : Option OpId) (front back : List CauseEntry) (x : CauseEntry) → under_count c (front ++ x ∷ back) ≡ one_under (same_cause_decided x.cause c) + under_count c (front ++ back)
unfolding under_count
count_parts c [] back x = refl
count_parts c (f ∷ front) back x = omega (arith, count_parts c front back x)

pub count_inserted : (c : Option OpId) (fs : List CauseEntry) (n : ℕ) (x : CauseEntry) → x.cause ≢ c → under_count c (insert fs n x) ≡ under_count c fs
count_inserted c fs n x other =
    let k = count_parts c (take n fs) (drop n fs) x in
    let z = none_if (same_cause_decided x.cause c) other in
    let w : under_count c (take n fs ++ drop n fs) ≡ under_count c fs = ap (under_count c) (take-append-drop n fs) in
    omega (arith, k, z, w)

pub count_removed : (c : Option OpId) (fs : List CauseEntry) (at : ℕ) (x : CauseEntry) → slice_get fs at ≡ Some x → x.cause ≡ c → under_count c (remove fs at) + 1 ≡ under_count c fs
count_removed c fs at x e same =
    let cut = ap (under_count c) (cut_at fs at x (slice_get_within fs at x e) (sym (get_or_from_slice_get fs at x x e))) in
    let k = count_parts c (take at fs) (drop (suc at) fs) x in
    let z = one_if (same_cause_decided x.cause c) same in
    omega (arith, cut, k, z)

under_rest : (i : OpId) (woken : List OpId) (c : Option OpId) → IsUnderOneOf (i ∷ woken) c → c ≢ Some i → IsUnderOneOf woken c
under_rest i woken None w n = w
under_rest i woken (Some j) w n = elim w [ inl e ↦ absurd (n (ap Some (sym e))) | inr t ↦ t ]

module _ {O : Type 0} (id : O → OpId) (clock : O → List (ℕ × ℕ)) where
  -- if nothing is indexed under a cause
  pub unwoken : (i : OpId) (woken : List OpId) (applied held : List O) (entries : List CauseEntry) → AreIndexed id clock (i ∷ woken) applied held entries → ((f : CauseEntry) → IsIn f entries → f.cause ≢ Some i) → AreIndexed id clock woken applied held entries
  unwoken i woken applied held entries indexed none = λ f o h k e. elim (indexed f o h k e) [ inl u ↦ inl u | inr w ↦ inr (under_rest i woken f.cause w (none f h)) ]

  -- the index after one operation is indexed again
  not_under : (applied : List O) (o : O) (i : OpId) (c : Option OpId) → HasId id applied i → IsIndexedUnder id clock applied o c → c ≢ Some i
  not_under applied o i None h u e = let k : ◌≡◌ {A = Option OpId} None (Some i) = e in absurd cc
  not_under applied o i (Some j) h u e = let k : j ≡ i = cc in u.missing (subst (HasId id applied) (sym k) h)

  pub moved_indexed : (now : List (ℕ × ℕ)) (woken : List OpId) (applied held : List O) (at : ℕ) (old new : List CauseEntry) → AreAscending id held → IsCauseIndex id held old → IsReindexed id clock now held at old new → IsClockOf id applied now → AreApart id held applied → AreIndexed id clock woken applied held old → AreIndexed id clock woken applied held new
  moved_indexed now woken applied held at old new a is m k disjoint indexed = λ f o h j e.
      let under = m.under applied k (disjoint (id m.op) (id_of_element id m.op held m.is_held)) in
      elim ((inserted_same (remove old at) m.to m.entry f).0 (subst (IsIn f) m.moved h)) [
        | inl q ↦
            let one : m.op ≡ o = ascending_determines id held m.op o a m.is_held j (m.op_id ∙ ap (λ (y : CauseEntry). y.id) q ∙ sym e) in
            inl (subst (λ (c : Option OpId). IsIndexedUnder id clock applied o c) (ap (λ (y : CauseEntry). y.cause) q) (subst (λ (x : O). IsIndexedUnder id clock applied x m.entry.cause) one under))
        | inr t ↦ indexed f o ((other_entries id old at m.before f is.ordered m.taken).0 t).0 j e
      ]

  pub moved_count : (now : List (ℕ × ℕ)) (i : OpId) (applied held : List O) (at : ℕ) (old new : List CauseEntry) → IsReindexed id clock now held at old new → IsClockOf id applied now → AreApart id held applied → HasId id applied i → ((f : CauseEntry) → slice_get old at ≡ Some f → f.cause ≡ Some i) → under_count (Some i) new + 1 ≡ under_count (Some i) old
  moved_count now i applied held at old new m k disjoint h under_i =
      let under = m.under applied k (disjoint (id m.op) (id_of_element id m.op held m.is_held)) in
      let a = count_inserted (Some i) (remove old at) m.to m.entry (not_under applied m.op i m.entry.cause h under) in
      let b = count_removed (Some i) old at m.before m.taken (under_i m.before m.taken) in
      let w = ap (under_count (Some i)) m.moved in
      omega (arith, a, b, w)

  -- the operations that were applied after the list
  pub id_in_map : (ops : List O) (i : OpId) → HasId id ops i → IsIn i (map id ops)
  id_in_map [] i h = h
  id_in_map (o ∷ ops) i h = elim h [ inl e ↦ inl e | inr t ↦ inr (id_in_map ops i t) ]

  under_grown : (applied ops : List O) (o : O) (c : Option OpId) → ¬ HasId id (applied ++ ops) (id o) → IsIndexedUnder id clock applied o c → IsIndexedUnder id clock (applied ++ ops) o c ⊎ IsUnderOneOf (map id ops) c
  under_grown applied ops o None n u = inl (λ i h. id_in_front id i applied ops (u.0 i h), n)
  under_grown applied ops o (Some i) n u = elim (has_decided id ops i) [
    | inl h ↦ inr (id_in_map ops i h)
    | inr m ↦ inl (awaited_by id clock (applied ++ ops) o i
        u.cause
        (λ h. elim (id_in_parts id i applied ops h) [ inl a ↦ u.missing a | inr b ↦ m b ])
        u.last
        (λ j h k. awaited_least id clock applied o i u j h (λ a. k (id_in_front id j applied ops a))))
  ]

  nowhere : (c : Option OpId) → IsUnderOneOf [] c → ⊥
  nowhere None h = h
  nowhere (Some i) h = h

  pub grown : (applied ops held : List O) (entries : List CauseEntry) → AreApart id held (applied ++ ops) → AreIndexed id clock [] applied held entries → AreIndexed id clock (map id ops) (applied ++ ops) held entries
  grown applied ops held entries disjoint indexed = λ f o h k e. elim (indexed f o h k e) [
    | inl u ↦ under_grown applied ops o f.cause (disjoint (id o) (id_of_element id o held k)) u
    | inr w ↦ absurd (nowhere f.cause w)
  ]

pub drop_past_end : {X : Type 0} (i : ℕ) (xs : List X) → length xs ≤ i → drop i xs ≡ []
drop_past_end zero [] l = refl
drop_past_end (suc i) [] l = refl
drop_past_end zero (x ∷ xs) l = absurd (omega (arith, l))
drop_past_end (suc i) (x ∷ xs) l = drop_past_end i xs (omega (arith, l))

pub fewer_apart : {O : Type 0} (id : O → OpId) (held fewer applied : List O) → ((o : O) → IsIn o fewer → IsIn o held) → AreApart id held applied → AreApart id fewer applied
fewer_apart id held fewer applied f disjoint i h =
    let x = element_of_id id i fewer h in
    disjoint i (subst (HasId id held) x.2 (id_of_element id x.0 held (f x.0 x.1)))
