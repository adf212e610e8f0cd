-- The operations that an inbox has received, applied or held, and how they change when held ones
-- are released and own ones are issued. It is causal delivery (Jungnickel, Oldenburg, Loibl, OPODIS
-- 2017).

use Rattle.std.specs.Prelude.{◌≡◌, ◌↔◌, ◌⊎◌, ℕ, ◌+◌, ◌<◌, ◌≤◌, suc, zero, List, [], ◌∷◌, ◌++◌}
use Rattle.std.specs.Prelude.{length, slice_index_or, Bool, not, ◌&&◌, nat_lt, nat_le}
use Rattle.std.specs.List.{filter}
use Rattle.tags_clocks.specs.declared.id.OpId.{OpId}
use Rattle.tags_clocks.specs.Clock.{IsCause, count_of}
use Rattle.merge_laws.specs.Orders.{IsIn, HasId, IdsDetermine, HaveSameElements, IsRipe, IsCausal}

-- Whether the clock covers the operation with this id.
abbrev pub is_cause : List (ℕ × ℕ) → OpId → Bool
is_cause clock id = nat_lt 0 id.number && nat_le id.number (count_of clock id.replica)

-- The operations that an inbox has received: those applied, in their order, and those held, by
-- ascending ids; and the counters that its follower began with.
pub record ReceivedOps (S O : Type 0) : Type 0 where
  pub start : S
  pub applied : List O
  pub held : List O

-- Ids are ordered by replica, then by number.
abbrev pub IsLess : OpId → OpId → Type 0
IsLess i j = (i.replica < j.replica) ⊎ ((i.replica ≡ j.replica) × (i.number < j.number))

-- The ids ascend strictly, so they are distinct.
abbrev pub AreAscending : {O : Type 0} → (O → OpId) → List O → Type 0
AreAscending id [] = Unit {0}
AreAscending {O} id (o ∷ os) = ((p : O) → IsIn p os → IsLess (id o) (id p)) × AreAscending id os

-- The clock covers the operations of the list, and no others.
abbrev pub IsClockOf : {O : Type 0} → (O → OpId) → List O → List (ℕ × ℕ) → Type 0
IsClockOf id os clock = (i : OpId) → IsCause clock i ↔ HasId id os i

-- The most operations that are held at one time.
abbrev pub held_limit : ℕ
held_limit = 65536

-- The invariant of every inbox.
pub record IsLawfulInbox {S O : Type 0} (id : O → OpId) (clock : O → List (ℕ × ℕ))
    (s : ReceivedOps S O) : Type 0 where
  -- the applied list is causal
  pub causal : IsCausal id clock s.applied
  -- no id is in both lists
  pub disjoint : (i : OpId) → HasId id s.held i → ¬ HasId id s.applied i
  -- among all received operations, an id determines the operation
  pub determined : IdsDetermine id (s.applied ++ s.held)
  pub ascending : AreAscending id s.held
  pub limited : length s.held ≤ held_limit

-- The operation was received: it is applied or held.
abbrev pub IsReceived : {S O : Type 0} → ReceivedOps S O → O → Type 0
IsReceived s o = IsIn o s.applied ⊎ IsIn o s.held

-- No operation with the id of this one was received.
abbrev pub IsNew : {S O : Type 0} → (O → OpId) → ReceivedOps S O → O → Type 0
IsNew id s o = (¬ HasId id s.applied (id o)) × ¬ HasId id s.held (id o)

-- A ripe operation is held.
abbrev pub IsStalled : {S O : Type 0} → (O → OpId) → (O → List (ℕ × ℕ)) → ReceivedOps S O → Type 0
IsStalled {S} {O} id clock s = (o : O) × IsIn o s.held × IsRipe id clock s.applied o

-- The operation is held and ripe, and no ripe one has a lesser id: it is released next.
pub record IsNextReleased {S O : Type 0} (id : O → OpId) (clock : O → List (ℕ × ℕ))
    (s : ReceivedOps S O) (op : O) : Type 0 where
  pub held : IsIn op s.held
  pub ripe : IsRipe id clock s.applied op
  pub least : (o : O) → IsIn o s.held → IsRipe id clock s.applied o → ¬ IsLess (id o) (id op)

-- The ripe held operation with the least id was applied. The counters had the numbers it needed.
pub record IsReleased {S O : Type 0} (id : O → OpId) (clock : O → List (ℕ × ℕ))
    (exhausts : S → List O → List O → Type 0) (old new : ReceivedOps S O) : Type 0 where
  pub op : O
  pub next : IsNextReleased id clock old op
  pub not_exhausted : ¬ exhausts old.start old.applied (op ∷ [])
  pub start : new.start ≡ old.start
  pub applied : new.applied ≡ old.applied ++ op ∷ []
  pub held : HaveSameElements old.held (op ∷ new.held)
  pub not_held : ¬ IsIn op new.held

-- This number of held operations were applied, one after another.
abbrev pub AreReleasedInTurn : {S O : Type 0} → (O → OpId) → (O → List (ℕ × ℕ))
    → (S → List O → List O → Type 0) → ℕ → ReceivedOps S O → ReceivedOps S O → Type 0
AreReleasedInTurn id clock exhausts zero old new = new ≡ old
AreReleasedInTurn {S} {O} id clock exhausts (suc n) old new =
    (before : ReceivedOps S O)
    × AreReleasedInTurn id clock exhausts n old before
    × IsReleased id clock exhausts before new

-- Each of the operations is ripe after the list and the operations before it.
abbrev pub AreRipe : {O : Type 0} → (O → OpId) → (O → List (ℕ × ℕ)) → List O → List O → Type 0
AreRipe {O} id clock applied ops =
    (front : List O) (o : O) (back : List O) → ops ≡ front ++ o ∷ back
    → IsRipe id clock (applied ++ front) o

-- An operation is issued after the list: its clock covers the list and nothing else, and its number
-- is the next one by that clock.
abbrev pub IsIssued : {O : Type 0} → (O → OpId) → (O → List (ℕ × ℕ)) → List O → O → Type 0
IsIssued id clock os o =
    IsClockOf id os (clock o) × (count_of (clock o) (id o).replica + 1 ≡ (id o).number)

-- Each of the operations is issued after the list and the operations before it.
abbrev pub AreIssued : {O : Type 0} → (O → OpId) → (O → List (ℕ × ℕ)) → List O → List O → Type 0
AreIssued {O} id clock applied ops =
    (front : List O) (o : O) (back : List O) → ops ≡ front ++ o ∷ back
    → IsIssued id clock (applied ++ front) o

-- The new held operations are the old ones, without those whose id was issued.
abbrev pub AreRemainingHeld : {O : Type 0} → (O → OpId) → List O → List O → List O → Type 0
AreRemainingHeld {O} id ops old new = (o : O) → IsIn o new ↔ (IsIn o old × ¬ HasId id ops (id o))

-- The held operation at this place is ripe, and no ripe one has a lesser id.
abbrev pub IsLeastRipe : {S O : Type 0} → (O → OpId) → (O → List (ℕ × ℕ)) → ReceivedOps S O → ℕ
    → Type 0
IsLeastRipe {S} {O} id clock s at =
    (at < length s.held)
    × ((o : O) → o ≡ slice_index_or s.held at o → IsRipe id clock s.applied o)
    × ((o p : O) → o ≡ slice_index_or s.held at o → IsIn p s.held → IsRipe id clock s.applied p
    → ¬ IsLess (id p) (id o))

-- The operations of a list that a clock doesn't cover.
abbrev pub uncovered_ops : {O : Type 0} → (O → OpId) → List (ℕ × ℕ) → List O → List O
uncovered_ops id clock os = filter (λ o. not (is_cause clock (id o))) os
