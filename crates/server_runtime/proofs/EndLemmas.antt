use Rattle.std.proofs.Common.{◌≡◌, ℕ, ◌<◌, List, [], ◌∷◌, ◌++◌, map, length, slice_get, Some, Result, Ok, Err, inl, inr, refl, ap, subst}
use Rattle.std.proofs.lemmas.Option.{get_or_from_slice_get, slice_get_within}
use Rattle.std.specs.Prelude.{IfOk, slice_index_or}
use Rattle.merge_laws.specs.Orders.{IsIn}
use Rattle.server_laws.specs.Interleavings.{HasHistory, HaveHistories}
use Rattle.server_runtime.specs.ReplicaEnds.{AreEndsOf, EndHasHistory, IsEndOf, books_of}
use Rattle.server_runtime.specs.declared.replica_end.ReplicaEnd.{ReplicaEnd}
use Rattle.server_runtime.specs.declared.replica_end.ReplicaEnd.TheVariants.{Finished, Lost, NotJoined}

pub books_have_histories : (ends : List ReplicaEnd) → ((end : ReplicaEnd) → IsIn end ends → EndHasHistory end) → HaveHistories (books_of ends)
books_have_histories [] each = λ book i. absurd i
books_have_histories (Finished book ∷ ends) each = λ other i. elim i [
  | inl same ↦ subst HasHistory same (each (Finished book) (inl refl))
  | inr t ↦ books_have_histories ends (λ end j. each end (inr j)) other t
]
books_have_histories (NotJoined ∷ ends) each = λ other i. books_have_histories ends (λ end j. each end (inr j)) other i
books_have_histories (Lost ∷ ends) each = λ other i. books_have_histories ends (λ end j. each end (inr j)) other i

-- the result of each call is the end of the replica in the slot at its place
pub ends_of_calls : (names : List ℕ) (ends : List ReplicaEnd) → length ends ≡ length names
    → ((i : ℕ) (name : ℕ) (end : ReplicaEnd) → i < length names → slice_get names i ≡ Some name → IsEndOf name (slice_index_or ends i end))
    → AreEndsOf names ends
ends_of_calls names ends count each = record {
  count = count;
  each = λ i name end named at. subst (IsEndOf name) (get_or_from_slice_get ends i end end at) (each i name end (slice_get_within names i name named) named);
}

-- if two clauses hold of a success, so does a third that follows from them
pub both_ok : {A E : Type 0} (P Q S : A → Type 0) (r : Result A E) → IfOk r P → IfOk r Q → ((a : A) → P a → Q a → S a) → IfOk r S
both_ok P Q S (Ok a) p q f = f a p q
both_ok P Q S (Err e) p q f = tt

-- the names of a list and of the rest of another stay the same if the next item moves to the first list
pub moved_name : {A B C : Type 0} (f : A → C) (g : B → C) (xs : List A) (x : A) (y : B) (ys : List B) → f x ≡ g y
    → map f (xs ++ x ∷ []) ++ map g ys ≡ map f xs ++ map g (y ∷ ys)
moved_name f g [] x y ys same = ap (λ c. c ∷ map g ys) same
moved_name f g (z ∷ zs) x y ys same = ap (λ names. f z ∷ names) (moved_name f g zs x y ys same)
