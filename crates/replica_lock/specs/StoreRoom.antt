-- The room that the operations of an event need in the replica's log, and when an event is refused
-- for want of it.

use Rattle.std.specs.Prelude.{◌≡◌, ℕ, ◌≤◌, min, List, [], Option, None, Some, Ok}
use Rattle.causal_inbox.specs.declared.delivery.Arrival.{Arrival}
use Rattle.causal_inbox.specs.declared.delivery.Arrival.TheVariants.{Repeat}
use Rattle.crdt_ops.specs.declared.op.Op.{Op}
use Rattle.imap_node.specs.Nodes.{IsAwaitedInput, NodeState}
use Rattle.imap_node.specs.Plans.{IsPlanOf}
use Rattle.imap_node.specs.declared.input.Input.{Input}
use Rattle.imap_node.specs.declared.input.Input.TheVariants as inputs
use Rattle.imap_node.specs.declared.plan.Plan.{Plan}
use Rattle.imap_node.specs.declared.reply.Reply.{Reply}
use Rattle.imap_node.specs.declared.reply.Reply.TheVariants.{Done, Refused}
use Rattle.op_log.specs.LineBounds.{line_bound, lines_bound}
use Rattle.replica_lock.specs.declared.event.BookEvent.{BookEvent}
use Rattle.replica_lock.specs.declared.event.BookEvent.TheVariants.{Command, Deliver, Line}
use Rattle.replica_lock.specs.declared.event.BookEvent.TheVariants.{Poll}
use Rattle.replica_lock.specs.declared.faults.StepFault.{StepFault}
use Rattle.replica_lock.specs.declared.faults.StepFault.TheVariants.{NoRoom, NoStoreRoom}
use Rattle.replica_lock.specs.declared.outcome.Outcome.{Outcome}
use Rattle.replica_lock.specs.declared.outcome.Outcome.TheVariants.{Delivered, Replied}

-- The operations that a reply issued.
abbrev pub issued_by : Reply → List Op
issued_by (Done answers silent issued) = issued
issued_by (Refused why closed) = []

-- The octets of the line of the operation that an event delivers, at most; 0 if it delivers none.
abbrev pub octets_delivered : BookEvent → ℕ
octets_delivered (Deliver op) = line_bound op
octets_delivered event = 0

-- The octets that the log needs, at most, for what an event with this outcome may add to the
-- operations that the replica received: those applied, and those held until they are.
abbrev pub octets_needed : BookEvent → Outcome → ℕ
octets_needed (Deliver op) outcome = line_bound op
octets_needed event (Replied reply) = lines_bound (issued_by reply)
octets_needed event outcome = 0

-- Of the octets of a delivered operation, those of one that wasn't received before.
abbrev pub octets_of_arrival : Arrival → ℕ → ℕ
octets_of_arrival Repeat delivered = 0
octets_of_arrival arrival delivered = delivered

-- The octets, at most, of the lines of what an event with this outcome added to the operations that
-- the replica received. Those of an operation that is held are among them, and not once more when
-- it is applied.
abbrev pub octets_received : Outcome → ℕ → ℕ
octets_received (Delivered (Ok receipt)) delivered = octets_of_arrival receipt.arrival delivered
octets_received (Replied reply) delivered = lines_bound (issued_by reply)
octets_received outcome delivered = 0

-- A log has room for so many octets; if there is none, each number fits.
abbrev pub HasRoom : Option ℕ → ℕ → Type 0
HasRoom None octets = Unit {0}
HasRoom (Some room) octets = octets ≤ room

-- The same for a number that a u64 stands for; the largest one stands for all larger numbers too.
abbrev pub HasRoomFor : Option ℕ → ℕ → Type 0
HasRoomFor room octets = HasRoom room (min octets 18446744073709551615)

-- An input of a session that awaits it would issue operations that need so many octets.
abbrev pub IsNeededByInput : NodeState → ℕ → Input → ℕ → Type 0
IsNeededByInput node n input octets =
    (plan : Plan) × IsAwaitedInput node n input × IsPlanOf node n input plan
    × (octets ≡ lines_bound (issued_by plan.reply))

-- An event may need so many octets.
abbrev pub IsNeeded : NodeState → BookEvent → ℕ → Type 0
IsNeeded node (Command n moment tagged) octets =
    IsNeededByInput node n (inputs.Command moment tagged) octets
IsNeeded node (Line n line) octets = IsNeededByInput node n (inputs.Line line) octets
IsNeeded node (Poll n) octets = IsNeededByInput node n inputs.Poll octets
IsNeeded node (Deliver op) octets = octets ≡ line_bound op
IsNeeded node event octets = ⊥

-- The log has no room for the octets that an event may need. An event that applies nothing needs
-- none, and each log has room for these.
abbrev pub LacksRoom : NodeState → BookEvent → Option ℕ → ℕ → Type 0
LacksRoom node event room octets =
    (needed : ℕ) × IsNeeded node event needed × (octets ≡ min needed 18446744073709551615)
    × (HasRoom room octets → ⊥)

-- Why an event isn't taken.
abbrev pub IsStepFault : NodeState → BookEvent → Option ℕ → StepFault → Type 0
IsStepFault node event room NoRoom = Unit {0}
IsStepFault node event room (NoStoreRoom octets refused) =
    (refused ≡ event) × LacksRoom node event room octets
