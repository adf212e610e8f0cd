-- Counts over a list of operations: of those with a property, and of those with a property for
-- which a condition has held ever since.

use Rattle.std.specs.Prelude.{ℕ, Bool, not, ◌&&◌, nat_lt, List, [], ◌∷◌, ◌++◌, length}
use Rattle.std.specs.List.{filter}

-- An operation of a list, with the operations before it and those after it.
pub record Split (O : Type 0) : Type 0 where
  pub front : List O
  pub op : O
  pub back : List O

-- Each operation of `back`, with the operations before it, which include `front`, and those after
-- it.
abbrev pub splits_from : {O : Type 0} → List O → List O → List (Split O)
splits_from front [] = []
splits_from front (op ∷ back) =
    record { front = front; op = op; back = back } ∷ splits_from (front ++ op ∷ []) back

-- Each operation of the list, with the operations before it and those after it.
abbrev pub splits_of : {O : Type 0} → List O → List (Split O)
splits_of ops = splits_from [] ops

-- Whether `present` holds after the operations `front`, and after each further one.
abbrev pub holds_since : {O : Type 0} → (List O → Bool) → List O → List O → Bool
holds_since present front [] = present front
holds_since present front (op ∷ back) = present front && holds_since present (front ++ op ∷ []) back

-- Whether `present` has held ever since this operation was applied.
abbrev pub has_held_since : {O : Type 0} → (List O → Bool) → Split O → Bool
has_held_since present cut = holds_since present (cut.front ++ cut.op ∷ []) cut.back

-- The number of operations with the property `P` for which `present` has held ever since.
abbrev pub count_since : {O : Type 0} → (List O → Bool) → (List O → O → Bool) → List O → ℕ
count_since present P ops =
    length (filter (λ cut. P cut.front cut.op && has_held_since present cut) (splits_of ops))

-- The number of such operations among the first `n`.
abbrev pub count_since_up_to : {O : Type 0} → ℕ → (List O → Bool) → (List O → O → Bool) → List O → ℕ
count_since_up_to n present P ops =
    count_since present (λ front op. P front op && nat_lt (length front) n) ops

-- The number of operations with the property `P` for which `present` hasn't held ever since.
abbrev pub count_not_since : {O : Type 0} → (List O → Bool) → (List O → O → Bool) → List O → ℕ
count_not_since present P ops =
    length (filter (λ cut. P cut.front cut.op && not (has_held_since present cut)) (splits_of ops))

-- The number of operations that have the property `P`.
abbrev pub count_all : {O : Type 0} → (List O → O → Bool) → List O → ℕ
count_all P ops = length (filter (λ cut. P cut.front cut.op) (splits_of ops))
