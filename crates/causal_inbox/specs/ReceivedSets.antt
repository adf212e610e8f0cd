-- The operations that an inbox has received, as a set: how deliveries, releases and issues change
-- it, and which part of it is applied.

use Rattle.std.specs.Prelude.{◌≡◌, ◌↔◌, ◌⊎◌, ℕ, List, ◌++◌}
use Rattle.tags_clocks.specs.declared.id.OpId.{OpId}
use Rattle.tags_clocks.specs.Clock.{IsCause}
use Rattle.merge_laws.specs.Orders.{IsIn, HasId, IdsDetermine, IsCausal}
use Rattle.causal_inbox.specs.Inbox.{ReceivedOps, IsReceived}

-- The list grew only at its end.
abbrev pub HasGrown : {O : Type 0} → List O → List O → Type 0
HasGrown {O} old new = (more : List O) × (new ≡ old ++ more)

-- The received operations are the same before and after.
abbrev pub ReceivedStays : {S O : Type 0} → ReceivedOps S O → ReceivedOps S O → Type 0
ReceivedStays {S} {O} old new = (o : O) → IsReceived new o ↔ IsReceived old o

-- The received operations afterwards are those received before and this operation.
abbrev pub ReceivedGrows : {S O : Type 0} → ReceivedOps S O → O → ReceivedOps S O → Type 0
ReceivedGrows {S} {O} old op new = (o : O) → IsReceived new o ↔ (IsReceived old o ⊎ (op ≡ o))

-- The received operations afterwards are those received before and the issued ones, except each
-- held operation that has the id of an issued one.
abbrev pub ReceivedTakesIssued : {S O : Type 0} → (O → OpId) → ReceivedOps S O → List O
    → ReceivedOps S O → Type 0
ReceivedTakesIssued {S} {O} id old ops new =
    (o : O)
    → IsReceived new o
    ↔ (IsIn o ops ⊎ (IsReceived old o × (IsIn o old.held → ¬ HasId id ops (id o))))

-- The invariant of the received operations, whatever they are: the applied list is causal, no id is
-- both in it and in the held list, and an id determines the operation.
pub record IsConsistent {S O : Type 0} (id : O → OpId) (clock : O → List (ℕ × ℕ))
    (s : ReceivedOps S O) : Type 0 where
  pub causal : IsCausal id clock s.applied
  pub disjoint : (i : OpId) → HasId id s.held i → ¬ HasId id s.applied i
  pub determined : IdsDetermine id (s.applied ++ s.held)

-- The list contains each received operation whose causes are all in the list.
abbrev pub TakesIn : {O : Type 0} → (O → OpId) → (O → List (ℕ × ℕ)) → (O → Type 0) → List O → Type 0
TakesIn {O} id clock received os =
    (o : O) → received o → ((i : OpId) → IsCause (clock o) i → HasId id os i) → IsIn o os

-- The list is the least set that contains each received operation whose causes are all in the set.
-- (It isn't the greatest set that contains the causes of its operations: forged operations may be
-- one another's causes, and such a ring is never applied.)
pub record IsLeastTaken {O : Type 0} (id : O → OpId) (clock : O → List (ℕ × ℕ))
    (received : O → Type 0) (os : List O) : Type 0 where
  pub takes_in : TakesIn id clock received os
  pub least : (others : List O)
      → TakesIn id clock received others → (o : O) → IsIn o os
      → IsIn o others
