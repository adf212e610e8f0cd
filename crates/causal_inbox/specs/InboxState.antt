-- An inbox and its history as contracts see them: the received operations, and the room, on which
-- calls that take no memory rely.

use Rattle.std.specs.Prelude.{◌≡◌, ◌⊎◌, ℕ, ◌+◌, ◌≤◌, List, ◌++◌, length}
use Rattle.tags_clocks.specs.declared.id.OpId.{OpId}
use Rattle.tags_clocks.specs.Clock.{count_of}
use Rattle.merge_laws.specs.Orders.{IsIn, IsCausal}
use Rattle.causal_inbox.specs.Inbox.{ReceivedOps, IsClockOf}

-- The room, on which the calls that take no memory rely: the value and its follower as they were
-- made ready, the next clock, and the number of further operations that the list has room for.
pub record InboxRoom (R F : Type 0) : Type 0 where
  pub value : R
  pub follower : F
  pub clock : List (ℕ × ℕ)
  pub count : ℕ

-- An inbox: the operations that it has received, and its room.
pub record InboxState (S R F O : Type 0) : Type 0 where
  pub received : ReceivedOps S O
  pub room : InboxRoom R F

-- The operations can be applied after the list, in this order, without further memory.
pub record IsReadied {R F O : Type 0} (is_prepared : R → List O → Type 0)
    (is_ready : F → List O → List O → Type 0) (id : O → OpId) (clock : O → List (ℕ × ℕ))
    (applied : List O) (room : InboxRoom R F) (ops : List O) : Type 0 where
  pub prepared : is_prepared room.value ops
  pub ready : IsCausal id clock (applied ++ ops) → is_ready room.follower applied ops
  pub next : IsCausal id clock (applied ++ ops) → IsClockOf id (applied ++ ops) room.clock
  pub count : length ops ≤ room.count

-- A history: the counters that its follower began with, the applied operations, and its room.
pub record HistoryState (S R F O : Type 0) : Type 0 where
  pub start : S
  pub applied : List O
  pub room : InboxRoom R F

-- The two numbers of an operation's id: the replica's number, and the operation's number at that
-- replica.
abbrev pub id_numbers : {O : Type 0} → (O → OpId) → O → ℕ × ℕ
id_numbers id o = ((id o).replica, (id o).number)

-- The numbers are the id of a replica's next operation after those that the clock covers.
abbrev pub IsNextId : List (ℕ × ℕ) → ℕ × ℕ → Type 0
IsNextId clock id = id.1 ≡ count_of clock id.0 + 1

-- The entry counts a replica's operations. Either the clock covers that number of them, or `keys`
-- lacks the first number that it doesn't cover.
abbrev pub LacksNextId : List (ℕ × ℕ) → List (ℕ × ℕ) → ℕ × ℕ → Type 0
LacksNextId clock keys entry =
    (entry.1 ≤ count_of clock entry.0) ⊎ (¬ IsIn (entry.0, count_of clock entry.0 + 1) keys)
