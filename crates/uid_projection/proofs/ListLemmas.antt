-- The lists of ids by origins.
use Rattle.std.proofs.Common.{◌≡◌, inl, inr, false, cond, Option, None, Some, IsSome, List, sym, ap, ◌∙◌, subst}
use Rattle.std.specs.Global.{Vec}
use Rattle.std.specs.Map.{KeepsOthers, lookup}
use Rattle.std.proofs.lemmas.Bool.{cases_Bool, false≢true, false_from_ne_true}
use Rattle.tags_clocks.specs.declared.id.OpId.{OpId}
use Rattle.merge_laws.specs.Orders.{IsIn}
use Rattle.crdt_ops.specs.SortedSets.{same_id}
use Rattle.uid_projection.specs.TagChanges.{Grows, IsListed}
use Rattle.uid_projection.proofs.IdLemmas.{own_id, same_is}

abbrev Lists : Type 0
Lists = List (OpId × Vec OpId)

pub grows_same : (old new : Lists) → ((o : OpId) → lookup (same_id o) new ≡ lookup (same_id o) old) → Grows old new
grows_same old new same = record {
  touched = λ o h. subst IsSome (sym (same o)) h;
  listed = λ o i h. subst (IsListed i) (sym (same o)) h;
}

pub grows_twice : (old mid new : Lists) → Grows old mid → Grows mid new → Grows old new
grows_twice old mid new a b = record {
  touched = λ o h. b.touched o (a.touched o h);
  listed = λ o i h. b.listed o i (a.listed o i h);
}

some_is : {X : Type 0} (o : Option X) (x : X) → o ≡ Some x → IsSome o
some_is o x e = subst IsSome (sym e) cc

-- a new list for an origin that had none
pub grows_new : (origin : OpId) (ids : Vec OpId) (old new : Lists) → lookup (same_id origin) old ≡ None → ((o : OpId) → lookup (same_id o) new ≡ cond (same_id origin o) (Some ids) (lookup (same_id o) old)) → Grows old new
grows_new origin ids old new none is = record {
  touched = λ o h. elim (cases_Bool (same_id origin o)) [
    | inl t ↦ some_is (lookup (same_id o) new) ids (is o ∙ ap (λ b. cond b (Some ids) (lookup (same_id o) old)) t)
    | inr f ↦ subst IsSome (sym (is o ∙ ap (λ b. cond b (Some ids) (lookup (same_id o) old)) f)) h
  ];
  listed = λ o i h. elim (cases_Bool (same_id origin o)) [
    | inl t ↦ absurd (subst (IsListed i) (ap (λ z. lookup (same_id z) old) (sym (same_is origin o t)) ∙ none) h)
    | inr f ↦ subst (IsListed i) (sym (is o ∙ ap (λ b. cond b (Some ids) (lookup (same_id o) old)) f)) h
  ];
}

pub new_list : (origin : OpId) (ids : Vec OpId) (old new : Lists) → ((o : OpId) → lookup (same_id o) new ≡ cond (same_id origin o) (Some ids) (lookup (same_id o) old)) → IsSome (lookup (same_id origin) new)
new_list origin ids old new is = some_is (lookup (same_id origin) new) ids (is origin ∙ ap (λ b. cond b (Some ids) (lookup (same_id origin) old)) (own_id origin))

-- the lists of other origins stay unchanged
other_list : (origin : OpId) (old new : Lists) → KeepsOthers same_id (same_id origin) old new → (o : OpId) → same_id origin o ≡ false → lookup (same_id o) new ≡ lookup (same_id o) old
unfolding KeepsOthers
other_list origin old new keeps o d =
    keeps (same_id o)
    (λ x y t. ap (λ z. same_id z y) (same_is o x t))
    (λ k t. false_from_ne_true (same_id o k) (λ u. false≢true (sym d ∙ (λ j. same_id (same_is origin k t j) (same_is o k u j)) ∙ own_id k)))

module _ (origin : OpId) (old new : Lists) (a b : Vec OpId) (keeps : KeepsOthers same_id (same_id origin) old new) (was : lookup (same_id origin) old ≡ Some a) (is : lookup (same_id origin) new ≡ Some b) where
  -- a list that got longer
  pub grows_pushed : ((i : OpId) → IsIn i a.items → IsIn i b.items) → Grows old new
  grows_pushed more = record {
    touched = λ o h. elim (cases_Bool (same_id origin o)) [
      | inl t ↦ subst (λ z. IsSome (lookup (same_id z) new)) (same_is origin o t) (some_is (lookup (same_id origin) new) b is)
      | inr f ↦ subst IsSome (sym (other_list origin old new keeps o f)) h
    ];
    listed = λ o i h. elim (cases_Bool (same_id origin o)) [
      | inl t ↦
          let e = same_is origin o t in
          let here : IsIn i a.items = subst (IsListed i) was (subst (λ z. IsListed i (lookup (same_id z) old)) (sym e) h) in
          subst (λ z. IsListed i (lookup (same_id z) new)) e (subst (IsListed i) (sym is) (more i here))
      | inr f ↦ subst (IsListed i) (sym (other_list origin old new keeps o f)) h
    ];
  }

pub pushed_listed : (origin i : OpId) (new : Lists) (b : Vec OpId) → lookup (same_id origin) new ≡ Some b → IsIn i b.items → IsListed i (lookup (same_id origin) new)
pushed_listed origin i new b is here = subst (IsListed i) (sym is) here
