-- The states of a node, of its replica and of its sessions, as contracts see them.

use Rattle.std.specs.Prelude.{◌≡◌, ℕ, List, [], Some, None, IsSome}
use Rattle.causal_inbox.specs.Inbox.{ReceivedOps}
use Rattle.crdt_ops.specs.declared.op.Op.{Op}
use Rattle.imap_commands.specs.declared.session.Session.{Session}
use Rattle.imap_commands.specs.declared.session.State.TheVariants.{LoggedOut}
use Rattle.imap_node.specs.Operations.{CanFollow}
use Rattle.imap_node.specs.Rooms.{HasRoomFor, Room}
use Rattle.imap_node.specs.Sessions.{IsOpen, Places, session_at, with_session}
use Rattle.imap_node.specs.declared.input.Input.{Input}
use Rattle.imap_node.specs.declared.input.Input.TheVariants.{Command, Line, Poll}
use Rattle.uid_projection.specs.declared.first_numbers.Counters.{Counters}

-- A node: its name and the first numbers of its counters, the operations that it applied in their
-- order, those that it holds until their causes are applied, and its sessions.
pub record NodeState : Type 0 where
  pub start : Counters
  pub applied : List Op
  pub held : List Op
  pub sessions : Places

-- A node that has received nothing, without sessions, and with these first numbers.
abbrev pub unused_node : Counters → NodeState
unused_node start = record { start = start; applied = []; held = []; sessions = [] }

-- The first numbers of a replica that joins: its UIDs and its UIDVALIDITYs count from 1.
abbrev pub first_numbers : ℕ → Counters
first_numbers name = record { replica = name; uid = 1; k = 1 }

-- A replica that joined with these operations: they are its list, as if each had been delivered to
-- it. It holds nothing and has no sessions.
abbrev pub joined_node : ℕ → List Op → NodeState
joined_node name ops =
    record { start = first_numbers name; applied = ops; held = []; sessions = [] }

-- A node, with the room that was made in it.
pub record NodeWithRoom : Type 0 where
  pub state : NodeState
  pub room : Room

-- A replica without its sessions, with the room that was made in it.
pub record ReplicaWithRoom : Type 0 where
  pub start : Counters
  pub applied : List Op
  pub held : List Op
  pub room : Room

-- The operations that a node received: those applied, and those held.
abbrev pub received_ops : NodeState → ReceivedOps Counters Op
received_ops node = record { start = node.start; applied = node.applied; held = node.held }

-- The replica can issue these operations: they come after those applied and exhaust no counter, and
-- there is room for them if there are any.
pub record IsReady (replica : ReplicaWithRoom) (ops : List Op) : Type 0 where
  pub follow : CanFollow replica.start replica.applied ops
  pub room : (ops ≡ [] → ⊥) → HasRoomFor replica.applied replica.room ops

-- The operations that a replica received.
abbrev pub replica_received : ReplicaWithRoom → ReceivedOps Counters Op
replica_received replica =
    record { start = replica.start; applied = replica.applied; held = replica.held }

-- The session idles: it awaits a DONE, and nothing else.
abbrev pub IsIdling : Session → Type 0
IsIdling session = IsSome session.idling

-- The session is open and idles.
abbrev pub IsIdlingAt : NodeState → ℕ → Type 0
IsIdlingAt node n =
    (session : Session) × (session_at node.sessions n ≡ Some session) × IsIdling session

-- The session awaits this input: a command if it is open and doesn't idle, a line or a poll if it
-- idles (RFC 2177, section 3).
abbrev pub IsAwaitedInput : NodeState → ℕ → Input → Type 0
IsAwaitedInput node n (Command moment tagged) = IsOpen node.sessions n × (IsIdlingAt node n → ⊥)
IsAwaitedInput node n (Line line) = IsIdlingAt node n
IsAwaitedInput node n Poll = IsIdlingAt node n

-- The session's LOGOUT was answered OK.
abbrev pub HasLoggedOut : NodeState → ℕ → Type 0
HasLoggedOut node n =
    (session : Session) × (session_at node.sessions n ≡ Some session) × (session.state ≡ LoggedOut)

-- The session is open and has not logged out.
abbrev pub IsActive : NodeState → ℕ → Type 0
IsActive node n =
    (session : Session)
    × (session_at node.sessions n ≡ Some session)
    × ((session.state ≡ LoggedOut) → ⊥)

-- The node with this session closed.
abbrev pub with_session_closed : NodeState → ℕ → NodeState
with_session_closed node n = record node { sessions = with_session node.sessions n None }
