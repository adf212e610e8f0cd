use Rattle.std.proofs.Common.{◌≡◌, inl, inr, ℕ, List, [], ◌∷◌, ◌++◌, sym, refl, ap, ◌∙◌, subst}
use Rattle.tags_clocks.specs.declared.id.OpId.{OpId}
use Rattle.tags_clocks.specs.Clock.{IsCause}
use Rattle.merge_laws.specs.Orders.{IsIn, HasId, fold_of, HaveSameElements, AreSound, IsConcurrent, GivesOneValue}
use Rattle.merge_laws.proofs.Lists.{in_middle, in_rest, in_front, in_cases, split_at}
use Rattle.merge_laws.proofs.Causal.{HaveSameIds, IsCausalAfter, ripe_along, same_ids_cons, causal_after, is_new}

module _ {O V : Type 0} (id : O → OpId) (clock : O → List (ℕ × ℕ)) (sound : O → Type 0) (effect : V → O → V) where
  -- operations that are causal after one list are causal after a list with the same ids
  causal_along : (e f : List O) (os : List O) → HaveSameIds id clock e f → IsCausalAfter id clock e os → IsCausalAfter id clock f os
  causal_along e f [] h c = tt
  causal_along e f (o ∷ os) h c = (ripe_along id clock e f o h c.0, causal_along (o ∷ e) (o ∷ f) os (same_ids_cons id clock o e f h) c.1)

  -- a list has the same ids if its first two elements are exchanged
  same_swapped : (x y : O) (e : List O) → HaveSameIds id clock (x ∷ y ∷ e) (y ∷ x ∷ e)
  same_swapped x y e i = (
    λ t. elim t [ inl k ↦ inr (inl k) | inr u ↦ elim u [ inl k ↦ inl k | inr w ↦ inr (inr w) ] ],
    λ t. elim t [ inl k ↦ inr (inl k) | inr u ↦ elim u [ inl k ↦ inl k | inr w ↦ inr (inr w) ] ],
  )

  -- If an operation needs only the earlier ones, those of the list before it are concurrent with
  -- it.
  in_front_apart : (e front back : List O) (x a : O) → IsCausalAfter id clock e (front ++ x ∷ back) → ((i : OpId) → IsCause (clock x) i → HasId id e i) → IsIn a front → IsConcurrent id clock a x
  in_front_apart e [] back x a c first h = absurd h
  in_front_apart e (b ∷ front) back x a c first h =
      elim h [
        | inl k ↦ subst (λ (d : O). IsConcurrent id clock d x) k (record {
          apart = λ same. is_new id clock (b ∷ e) (front ++ x ∷ back) x c.1 (in_middle x front back) (inl same);
          not_before = λ cause. c.0.1 (first (id b) cause);
          not_after = λ cause. is_new id clock e (b ∷ front ++ x ∷ back) x c (inr (in_middle x front back)) (c.0.0 (id x) cause);
        })
        | inr t ↦ in_front_apart (b ∷ e) front back x a c.1 (λ i k. inr (first i k)) t
      ]

  -- An operation taken out of the middle and put before all others.
  causal_moved : (e front back : List O) (x : O) → IsCausalAfter id clock e (front ++ x ∷ back) → IsCausalAfter id clock (x ∷ e) (front ++ back)
  causal_moved e [] back x c = c.1
  causal_moved e (a ∷ front) back x c = (
    (
      λ i k. inr (c.0.0 i k),
      λ i. elim i [ inl k ↦ is_new id clock (a ∷ e) (front ++ x ∷ back) x c.1 (in_middle x front back) (inl (sym k)) | inr t ↦ c.0.1 t ],
    ),
    causal_along (x ∷ a ∷ e) (a ∷ x ∷ e) (front ++ back) (same_swapped x a e) (causal_moved (a ∷ e) front back x c.1),
  )

  module _ (commutes : (v : V) (a b : O) → sound a → sound b → IsConcurrent id clock a b → effect (effect v a) b ≡ effect (effect v b) a) where
    -- An operation moved before those that are concurrent with it leaves the same value.
    fold_moved : (v : V) (front back : List O) (x : O) → sound x → AreSound sound front → ((a : O) → IsIn a front → IsConcurrent id clock a x) → fold_of effect v (front ++ x ∷ back) ≡ fold_of effect (effect v x) (front ++ back)
    fold_moved v [] back x s ss h = refl
    fold_moved v (a ∷ front) back x s ss h =
        fold_moved (effect v a) front back x s (λ o t. ss o (inr t)) (λ b t. h b (inr t))
        ∙ ap (λ w. fold_of effect w (front ++ back)) (commutes v a x (ss a (inl refl)) s (h a (inl refl)))

    one_value_after : (e : List O) (v : V) (xs ys : List O) → AreSound sound xs → IsCausalAfter id clock e xs → IsCausalAfter id clock e ys → HaveSameElements xs ys → fold_of effect v xs ≡ fold_of effect v ys
    one_value_after e v [] [] s c d h = refl
    one_value_after e v [] (y ∷ ys) s c d h = absurd ((h y).1 (inl refl))
    one_value_after e v (x ∷ xs) ys s c d h =
        let p = split_at x ys ((h x).0 (inl refl)) in
        let front = p.0 in
        let back = p.1 in
        let at : ys ≡ front ++ x ∷ back = p.2 in
        let d' : IsCausalAfter id clock e (front ++ x ∷ back) = subst (IsCausalAfter id clock e) at d in
        let h' : HaveSameElements (x ∷ xs) (front ++ x ∷ back) = subst (HaveSameElements (x ∷ xs)) at h in
        let moved : IsCausalAfter id clock (x ∷ e) (front ++ back) = causal_moved e front back x d' in
        let ss : AreSound sound front = λ o t. s o ((h' o).1 (in_front o front (x ∷ back) t)) in
        let same : HaveSameElements xs (front ++ back) = λ o. (
          λ t. elim (in_cases x o front back ((h' o).0 (inr t))) [ inl k ↦ absurd (is_new id clock (x ∷ e) xs o c.1 t (inl (ap id k))) | inr u ↦ u ],
          λ t. elim ((h' o).1 (in_rest x o front back t)) [ inl k ↦ absurd (is_new id clock (x ∷ e) (front ++ back) o moved t (inl (ap id k))) | inr u ↦ u ],
        ) in
        one_value_after (x ∷ e) (effect v x) xs (front ++ back) (λ o t. s o (inr t)) c.1 moved same
        ∙ sym (ap (fold_of effect v) at ∙ fold_moved v front back x (s x (inl refl)) ss (λ a t. in_front_apart e front back x a d' c.0.0 t))

    pub one_value : GivesOneValue id clock sound effect
    one_value v xs ys s c d h = one_value_after [] v xs ys s (causal_after id clock xs c) (causal_after id clock ys d) h
