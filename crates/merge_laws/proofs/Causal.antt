use Rattle.std.proofs.Common.{◌≡◌, ◌↔◌, ◌⊎◌, inl, inr, ℕ, List, [], ◌∷◌, ◌++◌, sym, refl, ap, ◌∙◌, subst, append_assoc, append-nil}
use Rattle.tags_clocks.specs.declared.id.OpId.{OpId}
use Rattle.merge_laws.specs.Orders.{IsIn, HasId, IsRipe, IsCausal}
use Rattle.merge_laws.proofs.Lists.{id_in_front, id_in_back, id_in_parts}

-- A list that ends with `o` is cut either at its end or within the rest.
cut_last : {X : Type 0} (os front back : List X) (o p : X) → os ++ o ∷ [] ≡ front ++ p ∷ back → ((os ≡ front) × (o ≡ p)) ⊎ ((rest : List X) × (os ≡ front ++ p ∷ rest))
cut_last [] [] back o p k = inl (refl, cc)
cut_last [] (a ∷ []) back o p k = absurd cc
cut_last [] (a ∷ b ∷ front) back o p k = absurd cc
cut_last (b ∷ os) [] back o p k = let e : b ≡ p = cc in inr (os, ap (λ x. x ∷ os) e)
cut_last {X} (b ∷ os) (a ∷ front) back o p k =
    let e : b ≡ a = cc in
    let rest : os ++ o ∷ [] ≡ front ++ p ∷ back = cc in
    elim (cut_last os front back o p rest) [
      | inl s ↦ inl (λ i. e i ∷ s.0 i, s.1)
      | inr s ↦ inr (s.0, λ i. e i ∷ s.1 i)
    ]

module _ {O : Type 0} (id : O → OpId) (clock : O → List (ℕ × ℕ)) where
  -- The two lists have the same ids.
  abbrev pub HaveSameIds : List O → List O → Type 0
  HaveSameIds e f = (i : OpId) → HasId id e i ↔ HasId id f i

  -- Each operation of the list is ripe after the earlier ones and those before it.
  abbrev pub IsCausalAfter : List O → List O → Type 0
  IsCausalAfter earlier [] = Unit {0}
  IsCausalAfter earlier (o ∷ os) = IsRipe id clock earlier o × IsCausalAfter (o ∷ earlier) os

  pub ripe_along : (e f : List O) (o : O) → HaveSameIds e f → IsRipe id clock e o → IsRipe id clock f o
  ripe_along e f o h r = (λ i k. (h i).0 (r.0 i k), λ k. r.1 ((h (id o)).1 k))

  pub same_ids_cons : (x : O) (e f : List O) → HaveSameIds e f → HaveSameIds (x ∷ e) (x ∷ f)
  same_ids_cons x e f h i = (λ t. elim t [ inl k ↦ inl k | inr u ↦ inr ((h i).0 u) ], λ t. elim t [ inl k ↦ inl k | inr u ↦ inr ((h i).1 u) ])

  same_at_end : (x : O) (e f : List O) → HaveSameIds e f → HaveSameIds (x ∷ e) (f ++ x ∷ [])
  same_at_end x e f h i = (
    λ t. elim t [ inl k ↦ id_in_back id i f (x ∷ []) (inl k) | inr u ↦ id_in_front id i f (x ∷ []) ((h i).0 u) ],
    λ t. elim (id_in_parts id i f (x ∷ []) t) [ inl u ↦ inr ((h i).1 u) | inr u ↦ elim u [ inl k ↦ inl k | inr n ↦ absurd n ] ],
  )

  after_from_cuts : (e before os : List O) → HaveSameIds e before → ((front : List O) (o : O) (back : List O) → os ≡ front ++ o ∷ back → IsRipe id clock (before ++ front) o) → IsCausalAfter e os
  after_from_cuts e before [] h cuts = tt
  after_from_cuts e before (o ∷ os) h cuts = (
    ripe_along before e o (λ i. ((h i).1, (h i).0)) (subst (λ (xs : List O). IsRipe id clock xs o) (append-nil before) (cuts [] o os refl)),
    after_from_cuts (o ∷ e) (before ++ o ∷ []) os (same_at_end o e before h) (λ front p back k.
        subst (λ (xs : List O). IsRipe id clock xs p) (sym (append_assoc before (o ∷ []) front)) (cuts (o ∷ front) p back (ap (λ xs. o ∷ xs) k))),
  )

  cuts_from_after : (e before os : List O) → HaveSameIds e before → IsCausalAfter e os → (front : List O) (o : O) (back : List O) → os ≡ front ++ o ∷ back → IsRipe id clock (before ++ front) o
  cuts_from_after e before [] h c [] o back k = absurd cc
  cuts_from_after e before [] h c (a ∷ front) o back k = absurd cc
  cuts_from_after e before (b ∷ os) h c [] o back k =
      let same : b ≡ o = cc in
      subst (λ (xs : List O). IsRipe id clock xs o) (sym (append-nil before)) (subst (λ (x : O). IsRipe id clock before x) same (ripe_along e before b h c.0))
  cuts_from_after e before (b ∷ os) h c (a ∷ front) o back k =
      let same : b ≡ a = cc in
      let rest : os ≡ front ++ o ∷ back = cc in
      subst (λ (x : O). IsRipe id clock (before ++ x ∷ front) o) same
      (subst (λ (xs : List O). IsRipe id clock xs o) (append_assoc before (b ∷ []) front)
      (cuts_from_after (b ∷ e) (before ++ b ∷ []) os (same_at_end b e before h) c.1 front o back rest))

  -- The definition by cuts and the one along the list agree.
  pub causal_after : (os : List O) → IsCausal id clock os → IsCausalAfter [] os
  causal_after os c = after_from_cuts [] [] os (λ i. (λ t. t, λ t. t)) c

  pub causal_from : (os : List O) → IsCausalAfter [] os → IsCausal id clock os
  causal_from os c = cuts_from_after [] [] os (λ i. (λ t. t, λ t. t)) c

  -- A causal list with a further ripe operation is causal.
  pub causal_append_one : (os : List O) (o : O) → IsCausal id clock os → IsRipe id clock os o → IsCausal id clock (os ++ o ∷ [])
  causal_append_one os o c r front p back k =
      elim (cut_last os front back o p k) [
        | inl same ↦ subst (λ (x : O). IsRipe id clock front x) same.1 (subst (λ (xs : List O). IsRipe id clock xs o) same.0 r)
        | inr inner ↦ c front p inner.0 inner.1
      ]

  -- The first operations of a causal list are causal.
  pub causal_front : (front back : List O) → IsCausal id clock (front ++ back) → IsCausal id clock front
  causal_front front back c first o rest k = c first o (rest ++ back) (ap (λ xs. xs ++ back) k ∙ append_assoc first (o ∷ rest) back)

  -- No id of a causal list occurs before the list.
  pub is_new : (e os : List O) (o : O) → IsCausalAfter e os → IsIn o os → HasId id e (id o) → ⊥
  is_new e [] o c h = absurd h
  is_new e (a ∷ os) o c h =
      elim h [
        | inl k ↦ λ i. c.0.1 (subst (λ (b : O). HasId id e (id b)) (sym k) i)
        | inr t ↦ λ i. is_new (a ∷ e) os o c.1 t (inr i)
      ]

  -- In a causal list an id determines the operation.
  pub after_determines : (e os : List O) (a b : O) → IsCausalAfter e os → IsIn a os → IsIn b os → id a ≡ id b → a ≡ b
  after_determines e [] a b c h k same = absurd h
  after_determines e (o ∷ os) a b c h k same =
      elim h [
        | inl p ↦ elim k [
          | inl q ↦ sym p ∙ q
          | inr t ↦ absurd (is_new (o ∷ e) os b c.1 t (inl (ap id p ∙ same)))
        ]
        | inr s ↦ elim k [
          | inl q ↦ absurd (is_new (o ∷ e) os a c.1 s (inl (ap id q ∙ sym same)))
          | inr t ↦ after_determines (o ∷ e) os a b c.1 s t same
        ]
      ]

  pub causal_determines : (os : List O) (a b : O) → IsCausal id clock os → IsIn a os → IsIn b os → id a ≡ id b → a ≡ b
  causal_determines os a b c = after_determines [] os a b (causal_after os c)

  -- A causal list is causal with further operations if each is ripe after the list and those before
  -- it.
  pub causal_append : (os ops : List O) → IsCausal id clock os → ((front : List O) (o : O) (back : List O) → ops ≡ front ++ o ∷ back → IsRipe id clock (os ++ front) o) → IsCausal id clock (os ++ ops)
  causal_append os [] c r = subst (IsCausal id clock) (sym (append-nil os)) c
  causal_append os (o ∷ ops) c r =
      let first : IsRipe id clock os o = subst (λ (xs : List O). IsRipe id clock xs o) (append-nil os) (r [] o ops refl) in
      subst (IsCausal id clock) (append_assoc os (o ∷ []) ops)
      (causal_append (os ++ o ∷ []) ops (causal_append_one os o c first) (λ front p back k.
      subst (λ (xs : List O). IsRipe id clock xs p) (sym (append_assoc os (o ∷ []) front)) (r (o ∷ front) p back (ap (λ xs. o ∷ xs) k))))
