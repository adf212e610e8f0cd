-- A journal's entry as an event of a world with its outcome. They differ only for a delivery: the
-- entry carries the operation, the world's event names its id.

use Rattle.std.specs.Prelude.{ℕ, Ok, Err}
use Rattle.replica_lock.specs.declared.event.BookEvent.{BookEvent}
use Rattle.replica_lock.specs.declared.event.BookEvent.TheVariants as happenings
use Rattle.replica_lock.specs.declared.outcome.Outcome.{Outcome as BookOutcome}
use Rattle.replica_lock.specs.declared.outcome.Outcome.TheVariants as answers
use Rattle.server_laws.specs.Interleavings.{ReplicaEntry}
use Rattle.world_core.specs.declared.event.Event.{Event}
use Rattle.world_core.specs.declared.event.Event.TheVariants as events
use Rattle.world_core.specs.declared.event.Outcome.{Outcome}
use Rattle.world_core.specs.declared.event.Outcome.TheVariants.{Taken, Closed, Drained, NotTaken}
use Rattle.world_core.specs.declared.event.Outcome.TheVariants.{Opened, PassedOver, Replied}
use Rattle.world_core.specs.declared.event.Outcome.TheVariants.{NotOpened}

-- The event of this entry at the replica of this name.
abbrev pub world_event : ℕ → BookEvent → Event
world_event name (happenings.Open auth) = events.Open name auth
world_event name (happenings.Command session moment tagged) =
    events.Command name session moment tagged
world_event name (happenings.Line session line) = events.IdleLine name session line
world_event name (happenings.Poll session) = events.Poll name session
world_event name (happenings.Deliver op) = events.Deliver name op.id
world_event name happenings.Drain = events.Drain name
world_event name (happenings.Close session) = events.Close name session

-- The outcome of an entry.
abbrev pub world_outcome : BookOutcome → Outcome
world_outcome (answers.Opened (Ok session)) = Opened session
world_outcome (answers.Opened (Err fault)) = NotOpened fault
world_outcome (answers.Replied reply) = Replied reply
world_outcome (answers.Delivered (Ok delivered)) = Taken delivered
world_outcome (answers.Delivered (Err fault)) = NotTaken fault
world_outcome (answers.Drained drained) = Drained drained
world_outcome answers.Closed = Closed
world_outcome answers.PassedOver = PassedOver

-- The event of an entry at its replica, and its outcome.
abbrev pub event_of : ReplicaEntry → Event
event_of item = world_event item.replica item.entry.event

abbrev pub outcome_of : ReplicaEntry → Outcome
outcome_of item = world_outcome item.entry.outcome
