-- The cause index of held operations: which cause an operation waits for, the order of the entries,
-- and when an index is right for the held operations.

use Rattle.std.specs.Prelude.{◌≡◌, ◌⊎◌, ℕ, ◌≤◌, List, [], ◌∷◌, Option, Some, None, insert, length}
use Rattle.std.specs.Prelude.{remove, slice_get, nat_lt, if◌then◌else◌}
use Rattle.tags_clocks.specs.declared.id.OpId.{OpId}
use Rattle.tags_clocks.specs.Clock.{IsCause, count_of}
use Rattle.merge_laws.specs.Orders.{IsIn, HasId, IsRipe}
use Rattle.causal_inbox.specs.Inbox.{IsClockOf, IsLess}
use Rattle.causal_inbox.specs.declared.cause_index.CauseEntry.{CauseEntry}

-- The operation's least cause that the list lacks, by replica and then by number.
pub record IsLeastMissing {O : Type 0} (id : O → OpId) (clock : O → List (ℕ × ℕ)) (applied : List O)
    (o : O) (i : OpId) : Type 0 where
  pub cause : IsCause (clock o) i
  pub missing : ¬ HasId id applied i
  pub least : (j : OpId) → IsCause (clock o) j → ¬ HasId id applied j → ¬ IsLess j i

-- The cause that an operation waits for: the last of its causes from the replica of its least
-- missing cause. A causal list has a replica's operations from the first on, so operations that
-- wait for one replica have the same least missing cause.
pub record IsAwaited {O : Type 0} (id : O → OpId) (clock : O → List (ℕ × ℕ)) (applied : List O)
    (o : O) (i : OpId) : Type 0 where
  pub cause : IsCause (clock o) i
  pub missing : ¬ HasId id applied i
  pub last : count_of (clock o) i.replica ≡ i.number
  pub least : (j : OpId) × (j.replica ≡ i.replica) × IsLeastMissing id clock applied o j

-- The cause under which a held operation is indexed: the one that it waits for, or none if it is
-- ripe.
abbrev pub IsIndexedUnder : {O : Type 0} → (O → OpId) → (O → List (ℕ × ℕ)) → List O → O
    → Option OpId → Type 0
IsIndexedUnder id clock applied o None = IsRipe id clock applied o
IsIndexedUnder id clock applied o (Some i) = IsAwaited id clock applied o i

-- The cause is one of these ids.
abbrev pub IsUnderOneOf : List OpId → Option OpId → Type 0
IsUnderOneOf woken None = ⊥
IsUnderOneOf woken (Some i) = IsIn i woken

-- The order of causes: none comes before every id, and ids are ordered.
abbrev pub IsCauseLess : Option OpId → Option OpId → Type 0
IsCauseLess None None = ⊥
IsCauseLess None (Some j) = Unit {0}
IsCauseLess (Some i) None = ⊥
IsCauseLess (Some i) (Some j) = IsLess i j

-- The order of entries: by cause, so that the ripe ones come first, and within one cause by id.
abbrev pub IsIndexedBefore : CauseEntry → CauseEntry → Type 0
IsIndexedBefore f g = IsCauseLess f.cause g.cause ⊎ ((f.cause ≡ g.cause) × IsLess f.id g.id)

-- Each element comes before all that follow it.
abbrev pub AreOrdered : {X : Type 0} → (X → X → Type 0) → List X → Type 0
AreOrdered less [] = Unit {0}
AreOrdered {X} less (x ∷ xs) = ((y : X) → IsIn y xs → less x y) × AreOrdered less xs

-- The index has one entry for each held operation and no others, and its entries are in order.
pub record IsCauseIndex {O : Type 0} (id : O → OpId) (held : List O) (entries : List CauseEntry) :
    Type 0 where
  pub each : (o : O) → IsIn o held → (f : CauseEntry) × IsIn f entries × (f.id ≡ id o)
  pub of : (f : CauseEntry) → IsIn f entries → (o : O) × IsIn o held × (id o ≡ f.id)
  pub once : (f g : CauseEntry) → IsIn f entries → IsIn g entries → f.id ≡ g.id → f ≡ g
  pub ordered : AreOrdered IsIndexedBefore entries

-- Each held operation is indexed under the cause that it waits for, or under none if it is ripe.
-- Those under a cause in `woken`, which was applied just now, are still to be indexed again.
abbrev pub AreIndexed : {O : Type 0} → (O → OpId) → (O → List (ℕ × ℕ)) → List OpId → List O → List O
    → List CauseEntry → Type 0
AreIndexed {O} id clock woken applied held entries =
    (f : CauseEntry) (o : O) → IsIn f entries → IsIn o held → id o ≡ f.id
    → IsIndexedUnder id clock applied o f.cause ⊎ IsUnderOneOf woken f.cause

-- No id is in both lists.
abbrev pub AreApart : {O : Type 0} → (O → OpId) → List O → List O → Type 0
AreApart id held applied = (i : OpId) → HasId id held i → ¬ HasId id applied i

-- The held operations, by ascending ids, and their cause index.
pub record HeldState (O : Type 0) : Type 0 where
  pub list : List O
  pub entries : List CauseEntry

-- The entry at this place was taken out, and another entry of the same operation was put in, under
-- the cause that the operation waits for by this clock.
pub record IsReindexed {O : Type 0} (id : O → OpId) (clock : O → List (ℕ × ℕ)) (now : List (ℕ × ℕ))
    (held : List O) (at : ℕ) (old new : List CauseEntry) : Type 0 where
  pub before : CauseEntry
  pub entry : CauseEntry
  pub to : ℕ
  pub taken : slice_get old at ≡ Some before
  pub same_id : entry.id ≡ before.id
  pub within : to ≤ length (remove old at)
  pub moved : new ≡ insert (remove old at) to entry
  pub op : O
  pub is_held : IsIn op held
  pub op_id : id op ≡ entry.id
  pub under : (applied : List O) → IsClockOf id applied now
      → ¬ HasId id applied (id op)
      → IsIndexedUnder id clock applied op entry.cause

-- The id of the last operation that is counted by the first entry above the clock; none if the
-- clock covers all entries.
abbrev pub first_beyond : List (ℕ × ℕ) → List (ℕ × ℕ) → Option OpId
first_beyond now [] = None
first_beyond now (e ∷ es) =
    if nat_lt (count_of now e.0) e.1 then Some (record { replica = e.0; number = e.1 })
    else first_beyond now es
