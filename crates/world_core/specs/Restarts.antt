-- What happens when a replica starts again, as after a crash, from the operations that it had
-- applied.

use Rattle.std.specs.Prelude.{◌≡◌, ℕ, []}
use Rattle.imap_node.specs.Nodes.{NodeState}
use Rattle.uid_projection.specs.Exhaustion.{Exhausts}
use Rattle.world_core.specs.Replicas.{IsAt, Replicas, with_node}
use Rattle.world_core.specs.declared.event.Outcome.{Outcome}
use Rattle.world_core.specs.declared.event.Outcome.TheVariants.{NotRestarted, Restarted}
use Rattle.world_core.specs.declared.world_join.JoinRefusal.TheVariants as refusals

-- The node after a restart: its first numbers and its applied list stay, what it held is lost, and
-- its sessions have ended.
abbrev pub restarted_node : NodeState → NodeState
restarted_node node =
    record { start = node.start; applied = node.applied; held = []; sessions = [] }

-- One of the operations in the node's list needs a number that a counter of the node lacks.
abbrev pub LacksOwnNumbers : NodeState → Type 0
LacksOwnNumbers node = Exhausts node.start [] node.applied

-- A node starts again. It doesn't if one of its counters lacks a number for an operation in its
-- list, and it may be refused if memory runs out.
abbrev pub RestartsBy : NodeState → Outcome → NodeState → Type 0
RestartsBy old Restarted new = (¬ LacksOwnNumbers old) × (new ≡ restarted_node old)
RestartsBy old (NotRestarted refusals.Exhausted) new = LacksOwnNumbers old × (new ≡ old)
RestartsBy old (NotRestarted refusals.NoMemory) new = new ≡ old
RestartsBy old _ new = ⊥

-- The replica of this name starts again.
abbrev pub RestartsAt : Replicas → ℕ → Replicas → Type 0
RestartsAt old name new =
    (node : NodeState) × IsAt old name node × (new ≡ with_node old name (restarted_node node))
