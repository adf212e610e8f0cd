-- What holds of every world: its invariant, and the promises that follow from it.

use Rattle.std.specs.Prelude.{◌≡◌, ℕ, ◌≤◌}
use Rattle.merge_laws.specs.Orders.{HaveSameElements}
use Rattle.causal_inbox.specs.ReceivedSets.{HasGrown, IsConsistent}
use Rattle.causal_inbox.specs.Inbox.{IsReceived}
use Rattle.crdt_ops.specs.Meanings.{MeansTheSame}
use Rattle.crdt_ops.specs.Sound.{IsSound}
use Rattle.crdt_ops.specs.declared.op.Op.{Op}
use Rattle.imap_node.specs.OlderViews.{AreOlderViews}
use Rattle.imap_node.specs.Nodes.{NodeState, received_ops}
use Rattle.imap_node.specs.Operations.{clock_of, id_of}
use Rattle.world_core.specs.Replicas.{IsAt, IsIssuedIn, Replicas}
use Rattle.world_core.specs.Restarts.{LacksOwnNumbers}
use Rattle.world_core.specs.SessionViews.{SessionViewsAscend}

-- What holds of a world in which each operation was issued by one of its replicas.
pub record IsIssuedWorld (replicas : Replicas) : Type 0 where
  -- each node bears the name under which it is listed
  pub named : (name : ℕ) (node : NodeState) → IsAt replicas name node → node.start.replica ≡ name
  pub from_one : (name : ℕ) (node : NodeState) → IsAt replicas name node → 1 ≤ node.start.uid
  -- what it applied is a causal list, and ids determine what it received
  pub consistent : (name : ℕ) (node : NodeState) → IsAt replicas name node
      → IsConsistent id_of clock_of (received_ops node)
  -- what it received is sound, and some replica issued it
  pub sound : (name : ℕ) (node : NodeState) → IsAt replicas name node → (op : Op)
      → IsReceived (received_ops node) op
      → IsSound op
  pub issued : (name : ℕ) (node : NodeState) → IsAt replicas name node → (op : Op)
      → IsReceived (received_ops node) op
      → IsIssuedIn replicas op
  -- the UIDs in a session's view ascend, and what the view lacks is later than its entries
  pub ascending : SessionViewsAscend replicas
  pub back : (name : ℕ) (node : NodeState) → IsAt replicas name node
      → AreOlderViews node.start node.applied node.sessions

-- Over everything that was issued, an id determines the operation.
abbrev pub IssuedAreDetermined : Replicas → Type 0
IssuedAreDetermined replicas =
    (a b : Op) → IsIssuedIn replicas a → IsIssuedIn replicas b → a.id ≡ b.id → a ≡ b

-- Everything that was issued is sound.
abbrev pub IssuedAreSound : Replicas → Type 0
IssuedAreSound replicas = (op : Op) → IsIssuedIn replicas op → IsSound op

-- Two replicas that applied the same operations have the same folders, messages and subscriptions:
-- those that the set of operations defines.
abbrev pub Converges : Replicas → Type 0
Converges replicas =
    (name other : ℕ) (one two : NodeState) → IsAt replicas name one → IsAt replicas other two
    → HaveSameElements one.applied two.applied → MeansTheSame one.applied two.applied

-- Each node stays, its list grows only at its end, and the first numbers of its counters stay.
abbrev pub AllNodesGrow : Replicas → Replicas → Type 0
AllNodesGrow old new =
    (name : ℕ) (before : NodeState) → IsAt old name before
    → (after : NodeState)
    × IsAt new name after
    × HasGrown before.applied after.applied
    × (after.start ≡ before.start)

-- No counter of a replica lacks a number for an operation that the replica applied: a restart is
-- refused only if memory runs out.
abbrev pub CountersLast : Replicas → Type 0
CountersLast replicas =
    (name : ℕ) (node : NodeState) → IsAt replicas name node → ¬ LacksOwnNumbers node
