-- The events of a replica and their outcomes, as a relation between the node before and after.

use Rattle.std.specs.Prelude.{◌≡◌, ℕ, Bool, List, [], false, is_some}
use Rattle.imap_answers.specs.declared.answer.Answer.{Answer}
use Rattle.imap_node.specs.Nodes.{NodeState}
pub use Rattle.imap_node.specs.Nodes.{IsAwaitedInput}
use Rattle.imap_node.specs.Replies.{is_done, reply_answers}
use Rattle.imap_node.specs.Responses.{Responds}
use Rattle.imap_node.specs.Sessions.{session_at}
pub use Rattle.imap_node.specs.Steps.{ClosesAt, DeliversAt, DrainsAt, IsNotOpenAt, OpensAt}
use Rattle.imap_node.specs.declared.input.Input.{Input}
use Rattle.imap_node.specs.declared.input.Input.TheVariants as inputs
use Rattle.replica_lock.specs.declared.event.BookEvent.{BookEvent}
use Rattle.replica_lock.specs.declared.event.BookEvent.TheVariants.{Close, Command, Deliver, Drain}
use Rattle.replica_lock.specs.declared.event.BookEvent.TheVariants.{Line, Open, Poll}
use Rattle.replica_lock.specs.declared.outcome.Outcome.{Outcome}
use Rattle.replica_lock.specs.declared.outcome.Outcome.TheVariants.{Closed, Delivered, Drained}
use Rattle.replica_lock.specs.declared.outcome.Outcome.TheVariants.{Opened, PassedOver, Replied}

-- Whether a copy of an outcome takes memory: it does only if the outcome is the reply to an input
-- that was carried out.
abbrev pub takes_memory : Outcome → Bool
takes_memory (Replied reply) = is_done reply
takes_memory _ = false

-- The answers of an outcome's reply; another outcome has none.
abbrev pub outcome_answers : Outcome → List Answer
outcome_answers (Replied reply) = reply_answers reply
outcome_answers _ = []

-- The event by which a session gets this input.
abbrev pub event_of : ℕ → Input → BookEvent
event_of n (inputs.Command moment tagged) = Command n moment tagged
event_of n (inputs.Line line) = Line n line
event_of n inputs.Poll = Poll n

-- An input of a session is answered; or, if the session doesn't take it, it is passed over and
-- nothing changes.
abbrev pub TakesInput : NodeState → ℕ → Input → Outcome → NodeState → Type 0
TakesInput old n input (Replied reply) new =
    IsAwaitedInput old n input × Responds old n input reply new
TakesInput old n input PassedOver new = (IsAwaitedInput old n input → ⊥) × (new ≡ old)
TakesInput old n input _ new = ⊥

-- One event at a node: with this outcome it leads from one state to the other.
abbrev pub IsStep : NodeState → BookEvent → Outcome → NodeState → Type 0
IsStep old (Open auth) (Opened answer) new = OpensAt old auth answer new
IsStep old (Command n moment tagged) outcome new =
    TakesInput old n (inputs.Command moment tagged) outcome new
IsStep old (Line n line) outcome new = TakesInput old n (inputs.Line line) outcome new
IsStep old (Poll n) outcome new = TakesInput old n inputs.Poll outcome new
IsStep old (Deliver op) (Delivered answer) new = DeliversAt old op answer new
IsStep old Drain (Drained drained) new = DrainsAt old drained new
IsStep old (Close n) Closed new = ClosesAt old n new
IsStep old (Close n) PassedOver new = IsNotOpenAt old n new
IsStep old _ _ new = ⊥

-- The event closes an open session.
abbrev pub ends_session : NodeState → BookEvent → Bool
ends_session node (Close n) = is_some (session_at node.sessions n)
ends_session node _ = false
