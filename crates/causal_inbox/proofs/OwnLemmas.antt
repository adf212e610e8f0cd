use Rattle.std.proofs.Common.{◌≡◌, ◌⊎◌, inl, inr, ℕ, ◌+◌, ◌<◌, Option, None, Some, List, [], ◌∷◌, ◌++◌, refl, sym, ap, ◌∙◌, subst, arith}
use Rattle.std.proofs.Common.{get_or, length, take}
use Rattle.std.proofs.lemmas.List.{take_more}
use Rattle.tags_clocks.specs.declared.id.OpId.{OpId}
use Rattle.merge_laws.proofs.Lists.{id_in_back, id_in_front, id_in_parts}
use Rattle.causal_inbox.specs.Inbox.{IsLess}
use Rattle.causal_inbox.specs.OwnIds.{IsLesserOwn, IsLeastOwn, IsOwn}

less_irreflexive : (i : OpId) → ¬ IsLess i i
less_irreflexive i h = elim h [ inl t ↦ omega (arith, t) | inr t ↦ let k = t.1 in omega (arith, k) ]

less_trans : (i j k : OpId) → IsLess i j → IsLess j k → IsLess i k
less_trans i j k h t = elim h [
  | inl a ↦ elim t [ inl b ↦ inl (omega (arith, a, b)) | inr b ↦ let e = b.0 in inl (omega (arith, a, e)) ]
  | inr a ↦ elim t [ inl b ↦ let e = a.0 in inl (omega (arith, b, e)) | inr b ↦ let m = a.1 in let n = b.1 in inr (a.0 ∙ b.0, omega (arith, m, n)) ]
]

module _ {O : Type 0} (id_of : O → OpId) (name : ℕ) where
  pub none_own : IsLeastOwn id_of name [] None
  none_own id h = absurd h.0

  -- a list with one further operation
  own_parts : (front : List O) (op : O) (i : OpId) → IsOwn id_of name (front ++ op ∷ []) i → IsOwn id_of name front i ⊎ ((id_of op ≡ i) × (i.replica ≡ name))
  own_parts front op i h = elim (id_in_parts id_of i front (op ∷ []) h.0) [ inl t ↦ inl (t, h.1) | inr t ↦ elim t [ inl e ↦ inr (e, h.1) | inr n ↦ absurd n ] ]

  pub least_own_append : (front : List O) (op : O) (old new : Option OpId) → IsLeastOwn id_of name front old → IsLesserOwn name (id_of op) old new → IsLeastOwn id_of name (front ++ op ∷ []) new
  least_own_append front op None new least step = elim step [
    | inl t ↦ subst (IsLeastOwn id_of name (front ++ op ∷ [])) (sym t.1) (
      (id_in_back id_of (id_of op) front (op ∷ []) (inl refl), t.0),
      λ other own less. elim (own_parts front op other own) [
        | inl u ↦ least other u
        | inr u ↦ less_irreflexive other (subst (λ (i : OpId). IsLess other i) u.0 less)
      ],
    )
    | inr t ↦ subst (IsLeastOwn id_of name (front ++ op ∷ [])) (sym t.1) (λ i own. elim (own_parts front op i own) [
      | inl u ↦ least i u
      | inr u ↦ t.0 (ap (λ (j : OpId). j.replica) u.0 ∙ u.1)
    ])
  ]
  least_own_append front op (Some best) new least step = elim step [
    | inl t ↦ subst (IsLeastOwn id_of name (front ++ op ∷ [])) (sym t.1) (
      (id_in_back id_of (id_of op) front (op ∷ []) (inl refl), t.0.0),
      λ other own less. elim (own_parts front op other own) [
        | inl u ↦ least.1 other u (less_trans other (id_of op) best less t.0.1)
        | inr u ↦ less_irreflexive other (subst (λ (i : OpId). IsLess other i) u.0 less)
      ],
    )
    | inr t ↦ subst (IsLeastOwn id_of name (front ++ op ∷ [])) (sym t.1) (
      (id_in_front id_of best front (op ∷ []) least.0.0, least.0.1),
      λ other own less. elim (own_parts front op other own) [
        | inl u ↦ least.1 other u less
        | inr u ↦ t.0 (ap (λ (j : OpId). j.replica) u.0 ∙ u.1, subst (λ (i : OpId). IsLess i best) (sym u.0) less)
      ],
    )
  ]

  pub least_next : (ops : List O) (i : ℕ) (op : O) (id : OpId) (old new : Option OpId) → i < length ops → op ≡ get_or ops i op → IsLeastOwn id_of name (take i ops) old → id ≡ id_of op → IsLesserOwn name id old new → IsLeastOwn id_of name (take (i + 1) ops) new
  least_next ops i op id old new l is least e step =
      subst (λ (os : List O). IsLeastOwn id_of name os new) (sym (take_more ops i op l ∙ ap (λ y. take i ops ++ y ∷ []) (sym is)))
      (least_own_append (take i ops) op old new least (subst (λ (j : OpId). IsLesserOwn name j old new) e step))
