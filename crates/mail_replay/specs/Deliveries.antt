-- Deliveries of operations to the replicas of a script, and the lines that report their results.

use Rattle.std.specs.Prelude.{◌≡◌, ◌⊎◌, ◌↔◌, ℕ, Bool, IsTrue, List, Some, Result, Ok, Err}
use Rattle.std.specs.Prelude.{slice_get, slice_set}
use Rattle.causal_inbox.specs.declared.delivery.Arrival.{Arrival}
use Rattle.causal_inbox.specs.declared.delivery.Arrival.TheVariants as arrivals
use Rattle.causal_inbox.specs.declared.delivery.DeliverFault.{DeliverFault}
use Rattle.causal_inbox.specs.declared.delivery.DeliverFault.TheVariants as refusals
use Rattle.causal_inbox.specs.declared.delivery.Delivered.{Delivered as Answer}
use Rattle.crdt_ops.specs.Form.{IsSpelled}
use Rattle.crdt_ops.specs.Sound.{IsFirstFault, IsSound}
use Rattle.crdt_ops.specs.declared.op.Op.{Op}
use Rattle.crdt_ops.specs.declared.sound_op.Unsound.{Unsound as Fault}
use Rattle.crdt_ops.specs.declared.sound_op.Unsound.TheVariants.{OwnClockEntry, UncoveredId}
use Rattle.crdt_ops.specs.declared.sound_op.Unsound.TheVariants.{UnlawfulName, UnlawfulFlags}
use Rattle.crdt_ops.specs.declared.sound_op.Unsound.TheVariants.{DeleteOfInbox, Count}
use Rattle.imap_node.specs.Deliveries.{Delivers, DrainsHeld, HoldsRipeOp, IsRefusedAt}
use Rattle.imap_node.specs.Nodes.{NodeWithRoom, NodeState}
use Rattle.mail_script.specs.Outcomes.{outcome_line}
use Rattle.mail_script.specs.declared.outcome_line.BrokenRule.{BrokenRule}
use Rattle.mail_script.specs.declared.outcome_line.BrokenRule.TheVariants as rules
use Rattle.mail_script.specs.declared.outcome_line.DeliveryResult.{DeliveryResult}
use Rattle.mail_script.specs.declared.outcome_line.DeliveryResult.TheVariants as results
use Rattle.mail_script.specs.declared.outcome_line.OutcomeLine.{OutcomeLine}
use Rattle.mail_script.specs.declared.outcome_line.OutcomeLine.TheVariants.{Delivered, Drained}
use Rattle.mail_script.specs.declared.outcome_line.OutcomeLine.TheVariants.{Forged, Unsound}
use Rattle.mail_replay.specs.ScriptState.{ScriptContents, replica_place}
use Rattle.mail_replay.specs.declared.deliveries.Source.{Source}
use Rattle.mail_replay.specs.declared.deliveries.Source.TheVariants as sources
use Rattle.mail_replay.specs.declared.script_state.ScriptReplica.{ScriptReplica}
use Rattle.merge_laws.specs.Orders.{IsIn}
use Rattle.tags_clocks.specs.declared.id.OpId.{OpId}

-- ---- the result that a line reports

abbrev pub arrival_result_of : Arrival → Bool → DeliveryResult
arrival_result_of (arrivals.Applied count) stalled = results.Applied count stalled
arrival_result_of arrivals.Held stalled = results.Held stalled
arrival_result_of arrivals.Repeat stalled = results.Repeat stalled

abbrev pub refusal_result_of : DeliverFault → DeliveryResult
refusal_result_of (refusals.Conflict id) = results.Conflict id
refusal_result_of refusals.HeldFull = results.HeldFull
refusal_result_of refusals.Exhausted = results.Exhausted
refusal_result_of refusals.NoMemory = results.NoMemory

-- The result that is reported for a node's answer.
abbrev pub delivery_result_of : Result Answer DeliverFault → DeliveryResult
delivery_result_of (Ok answer) = arrival_result_of answer.arrival answer.stalled
delivery_result_of (Err why) = refusal_result_of why

-- The rule that is reported for an operation that isn't sound.
abbrev pub broken_rule_of : Fault → BrokenRule
broken_rule_of OwnClockEntry = rules.OwnEntry
broken_rule_of UncoveredId = rules.UncoveredId
broken_rule_of UnlawfulName = rules.UnlawfulName
broken_rule_of UnlawfulFlags = rules.UnlawfulFlags
broken_rule_of DeleteOfInbox = rules.InboxDeleted
broken_rule_of Count = rules.OldIdCount

-- ---- deliveries

-- A node's answer to an operation that is delivered to it, and its state after that.
abbrev pub Answers : NodeState → Op → Result Answer DeliverFault → NodeState → Type 0
Answers old op (Ok answer) new =
    Delivers old op answer.arrival new × (IsTrue answer.stalled ↔ HoldsRipeOp new)
Answers old op (Err why) new = IsRefusedAt old op why × (new ≡ old)

-- The replica with this name is declared, and has this place.
abbrev pub IsDeclaredAt : ScriptContents → ℕ → ℕ → ScriptReplica → Type 0
IsDeclaredAt setup name at replica =
    (replica_place setup.replicas name ≡ Some at) × (slice_get setup.replicas at ≡ Some replica)

-- The script's state with this node in place of a replica's.
abbrev pub with_node : ScriptContents → ℕ → ScriptReplica → NodeWithRoom → ScriptContents
with_node setup at replica node =
    record setup { replicas = slice_set setup.replicas at (record replica { node = node }) }

-- An operation is delivered to a replica, with this result.
abbrev pub DeliversOp : ScriptContents → ℕ → Op → DeliveryResult → ScriptContents → Type 0
DeliversOp old name op status new =
    (at : ℕ)
    × (replica : ScriptReplica)
    × (node : NodeWithRoom)
    × (answer : Result Answer DeliverFault)
    × IsDeclaredAt old name at replica
    × Answers replica.node.state op answer node.state
    × (status ≡ delivery_result_of answer)
    × (new ≡ with_node old at replica node)

-- The replica that an id names issued this operation with it.
abbrev pub Issued : ScriptContents → OpId → Op → Type 0
Issued setup id op =
    (at : ℕ)
    × (source : ScriptReplica)
    × IsDeclaredAt setup id.replica at source
    × IsIn op source.issued
    × (op.id ≡ id)

-- The line that reports the result of a delivery.
abbrev pub outcome_line_of : Source → OpId → ℕ → DeliveryResult → OutcomeLine
outcome_line_of sources.Issued id name status = Delivered id name status
outcome_line_of sources.Forged id name status = Forged id name status

-- An operation is delivered to a replica, and the result is printed.
abbrev pub DeliversAndPrints : ScriptContents → Source → ℕ → Op → List ℕ → ScriptContents → Type 0
DeliversAndPrints old source name op more new =
    (status : DeliveryResult)
    × DeliversOp old name op status new
    × (more ≡ outcome_line (outcome_line_of source op.id name status))

-- The operation that its replica issued with this id is delivered.
abbrev pub DeliversTo : ScriptContents → OpId → ℕ → List ℕ → ScriptContents → Type 0
DeliversTo old id name more new =
    (op : Op) × Issued old id op × DeliversAndPrints old sources.Issued name op more new

-- A forged operation is delivered to a replica if it is sound; otherwise the rule that it breaks is
-- reported.
abbrev pub ForgesOp : ScriptContents → ℕ → Op → List ℕ → ScriptContents → Type 0
ForgesOp old name op more new =
    (IsSound op × DeliversAndPrints old sources.Forged name op more new)
    ⊎ ((why : Fault) × IsFirstFault op why × (more ≡ outcome_line (Unsound (broken_rule_of why)))
    × (new ≡ old))

-- An operation that a line spells, and that no replica need have issued, is delivered.
abbrev pub ForgesAt : ScriptContents → ℕ → List ℕ → List ℕ → ScriptContents → Type 0
ForgesAt old name text more new = (op : Op) × IsSpelled op text × ForgesOp old name op more new

-- A replica applies its held operations that are ripe.
abbrev pub DrainsAt : ScriptContents → ℕ → List ℕ → ScriptContents → Type 0
DrainsAt old name more new =
    (at : ℕ) × (replica : ScriptReplica) × (node : NodeWithRoom) × (count : ℕ) × (stalled : Bool)
    × IsDeclaredAt old name at replica
    × DrainsHeld replica.node.state count node.state
    × (IsTrue stalled ↔ HoldsRipeOp node.state)
    × (more ≡ outcome_line (Drained name count stalled)) × (new ≡ with_node old at replica node)
