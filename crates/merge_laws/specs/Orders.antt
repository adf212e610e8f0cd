-- Causal lists of operations with ids and clocks, and the law that their order doesn't matter
-- (Jungnickel, Oldenburg, Loibl, OPODIS 2017).

use Rattle.std.specs.Prelude.{◌≡◌, ◌≢◌, ◌↔◌, ◌⊎◌, ℕ, List, [], ◌∷◌, ◌++◌}
use Rattle.tags_clocks.specs.declared.id.OpId.{OpId}
use Rattle.tags_clocks.specs.Clock.{IsCause}

-- `x` is an element.
abbrev pub IsIn : {X : Type 0} → X → List X → Type 0
IsIn x [] = ⊥
IsIn x (y ∷ ys) = (y ≡ x) ⊎ IsIn x ys

-- The lists have the same elements: they are one set.
abbrev pub HaveSameElements : {X : Type 0} → List X → List X → Type 0
HaveSameElements {X} xs ys = (x : X) → IsIn x xs ↔ IsIn x ys

-- All elements are sound.
abbrev pub AreSound : {O : Type 0} → (O → Type 0) → List O → Type 0
AreSound {O} is_sound os = (o : O) → IsIn o os → is_sound o

-- Some operation of the list has this id.
abbrev pub HasId : {O : Type 0} → (O → OpId) → List O → OpId → Type 0
HasId id [] i = ⊥
HasId id (o ∷ os) i = (id o ≡ i) ⊎ HasId id os i

-- No two different operations of the list have one id.
abbrev pub IdsDetermine : {O : Type 0} → (O → OpId) → List O → Type 0
IdsDetermine {O} id os = (a b : O) → IsIn a os → IsIn b os → id a ≡ id b → a ≡ b

-- The first is a cause of the second: the order of the IMAP-CRDT's operations.
abbrev pub IsBefore : {O : Type 0} → (O → OpId) → (O → List (ℕ × ℕ)) → O → O → Type 0
IsBefore id clock a b = IsCause (clock b) (id a)

-- Two different operations, neither of them before the other.
pub record IsConcurrent {O : Type 0} (id : O → OpId) (clock : O → List (ℕ × ℕ)) (a b : O) :
    Type 0 where
  pub apart : id a ≢ id b
  pub not_before : ¬ IsBefore id clock a b
  pub not_after : ¬ IsBefore id clock b a

-- An operation may come next: the list has all its causes, but not its id.
abbrev pub IsRipe : {O : Type 0} → (O → OpId) → (O → List (ℕ × ℕ)) → List O → O → Type 0
IsRipe id clock os o = ((i : OpId) → IsCause (clock o) i → HasId id os i) × ¬ HasId id os (id o)

-- Each operation of the list was ripe after those before it: no id occurs twice, and each cause
-- comes earlier.
abbrev pub IsCausal : {O : Type 0} → (O → OpId) → (O → List (ℕ × ℕ)) → List O → Type 0
IsCausal {O} id clock os =
    (front : List O) (o : O) (back : List O) → os ≡ front ++ o ∷ back → IsRipe id clock front o

-- The value after the operations, one after another.
abbrev pub fold_of : {V O : Type 0} → (V → O → V) → V → List O → V
fold_of effect v [] = v
fold_of effect v (o ∷ os) = fold_of effect (effect v o) os

-- Causal lists of the same sound operations lead from one value to the same value.
abbrev pub GivesOneValue : {O V : Type 0} → (O → OpId) → (O → List (ℕ × ℕ)) → (O → Type 0)
    → (V → O → V) → Type 0
GivesOneValue {O} {V} id clock is_sound effect =
    (v : V) (xs ys : List O)
    → AreSound is_sound xs
    → IsCausal id clock xs
    → IsCausal id clock ys
    → HaveSameElements xs ys
    → fold_of effect v xs ≡ fold_of effect v ys
