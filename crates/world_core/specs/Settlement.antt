-- The result of `settle`, which has nodes exchange what they received, and why it may fail.

use Rattle.std.specs.Prelude.{◌≡◌, ◌≢◌, List, [], ◌∷◌}
use Rattle.tags_clocks.specs.declared.id.OpId.{OpId}
use Rattle.merge_laws.specs.Orders.{HaveSameElements, IsIn, IsRipe}
use Rattle.causal_inbox.specs.ReceivedSets.{HasGrown, IsLeastTaken}
use Rattle.causal_inbox.specs.Inbox.{IsLess, IsReceived}
use Rattle.crdt_ops.specs.declared.op.Op.{Op}
use Rattle.imap_node.specs.Nodes.{NodeState, received_ops}
use Rattle.uid_projection.specs.Exhaustion.{Exhausts}
use Rattle.world_core.specs.declared.settlement.SettleFault.{SettleFault}
use Rattle.world_core.specs.declared.settlement.SettleFault.TheVariants.{Conflict, Exhausted}
use Rattle.world_core.specs.declared.settlement.SettleFault.TheVariants.{NoMemory}
use Rattle.imap_node.specs.Operations.{clock_of, id_of}

-- The node received the operation: it applied it or holds it.
abbrev pub IsReceivedAt : NodeState → Op → Type 0
IsReceivedAt node op = IsReceived (received_ops node) op

-- One of the nodes received the operation.
abbrev pub IsReceivedBy : List NodeState → Op → Type 0
IsReceivedBy nodes op = (node : NodeState) × IsIn node nodes × IsReceivedAt node op

-- ---- conflicts and used-up counters

-- An operation of `Ones` and an operation of `Others` that have one id are the same.
abbrev pub AgreeOnIds : (Op → Type 0) → (Op → Type 0) → Type 0
AgreeOnIds Ones Others =
    (one other : Op) → Ones one → Others other → one.id ≡ other.id → one ≡ other

-- `Ones` and `Others` have different operations with this id.
pub record Clashes (Ones Others : Op → Type 0) (id : OpId) : Type 0 where
  pub one : Op
  pub other : Op
  pub is_one : Ones one
  pub is_other : Others other
  pub one_named : one.id ≡ id
  pub other_named : other.id ≡ id
  pub differ : one ≢ other

-- The nodes received different operations with this id. (No single node did: over what one node
-- received, an id determines the operation.)
abbrev pub IsConflict : List NodeState → OpId → Type 0
IsConflict nodes = Clashes (IsReceivedBy nodes) (IsReceivedBy nodes)

-- This id is in conflict, and no lesser one is. Ids are ordered by replica, then by number.
abbrev pub IsLeastConflict : List NodeState → OpId → Type 0
IsLeastConflict nodes id =
    IsConflict nodes id × ((other : OpId) → IsConflict nodes other → ¬ IsLess other id)

-- No id is in conflict: over all that the nodes received, an id determines the operation.
abbrev pub AreAgreed : List NodeState → Type 0
AreAgreed nodes = AgreeOnIds (IsReceivedBy nodes) (IsReceivedBy nodes)

-- The node could apply one of these operations, since it applied all of its causes and no operation
-- with its id, but a counter has no number left for it.
pub record LacksNumber (Offered : Op → Type 0) (node : NodeState) : Type 0 where
  pub op : Op
  pub received : Offered op
  pub ripe : IsRipe id_of clock_of node.applied op
  pub exhausts : Exhausts node.start node.applied (op ∷ [])

-- One of the nodes could apply an operation that some node had received, but a counter has no
-- number left.
abbrev pub OneLacksNumber : List NodeState → List NodeState → Type 0
OneLacksNumber old new = (node : NodeState) × IsIn node new × LacksNumber (IsReceivedBy old) node

-- ---- results

-- All nodes applied one set: the least that contains what any of them had applied, and each
-- operation that any of them had received, applied or held, and whose causes are in the set.
pub record AreSettled (old new : List NodeState) : Type 0 where
  pub least : (node : NodeState) → IsIn node new
      → IsLeastTaken id_of clock_of (IsReceivedBy old) node.applied
  pub one : (node other : NodeState) → IsIn node new → IsIn other new
      → HaveSameElements node.applied other.applied
  pub had : (before after : NodeState) (op : Op) → IsIn before old → IsIn op before.applied
      → IsIn after new
      → IsIn op after.applied

-- When each fault is returned, and the nodes that it leaves.
abbrev pub AreUnsettled : List NodeState → SettleFault → List NodeState → Type 0
AreUnsettled old (Conflict id) new = IsLeastConflict old id × (new ≡ old)
AreUnsettled old Exhausted new = AreAgreed old × OneLacksNumber old new
AreUnsettled old NoMemory new = AreAgreed old

-- ---- whatever the result

-- A node takes some of these operations. Its list grows only at its end, it loses nothing, and its
-- sessions and the first numbers of its counters stay.
pub record TakesSomeOf (Offered : Op → Type 0) (old new : NodeState) : Type 0 where
  pub start : new.start ≡ old.start
  pub sessions : new.sessions ≡ old.sessions
  pub grown : HasGrown old.applied new.applied
  pub retained : (op : Op) → IsReceivedAt old op → IsReceivedAt new op
  pub received : (op : Op) → IsReceivedAt new op → Offered op

-- Each node in the list takes some of these operations.
abbrev pub AllTakeSomeOf : (Op → Type 0) → List NodeState → List NodeState → Type 0
AllTakeSomeOf Offered [] [] = Unit {0}
AllTakeSomeOf Offered (old ∷ old_ids) (new ∷ new_nodes) =
    TakesSomeOf Offered old new × AllTakeSomeOf Offered old_ids new_nodes
AllTakeSomeOf Offered _ _ = ⊥

-- The nodes' names are distinct.
abbrev pub AreNamedApart : List NodeState → Type 0
AreNamedApart [] = Unit {0}
AreNamedApart (node ∷ nodes) =
    ((other : NodeState) → IsIn other nodes → other.start.replica ≢ node.start.replica)
    × AreNamedApart nodes
