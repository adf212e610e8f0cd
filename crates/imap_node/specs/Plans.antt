-- The results of `plan` and of `commit`: a session's next step, and the node after it.

use Rattle.std.specs.Prelude.{◌≡◌, ℕ, List, [], ◌++◌, Option, Some, None, Result, Ok, Err}
use Rattle.std.specs.Prelude.{if◌then◌else◌}
use Rattle.causal_inbox.specs.Inbox.{AreIssued}
use Rattle.crdt_ops.specs.declared.kind.Kind.{Kind}
use Rattle.crdt_ops.specs.declared.op.Op.{Op}
use Rattle.imap_answers.specs.declared.fixed_words.Refusal.{Refusal}
use Rattle.imap_commands.specs.declared.session.Session.{Session}
use Rattle.imap_commands.specs.declared.session.State.{State}
use Rattle.imap_node.specs.declared.input.Input.{Input}
use Rattle.imap_node.specs.declared.plan.PreparedReply.{PreparedReply}
use Rattle.imap_node.specs.declared.plan.SessionStep.{SessionStep}
use Rattle.imap_node.specs.declared.plan.SessionStep.TheVariants.{Advances, Leaves, Stays, Wakes}
use Rattle.imap_node.specs.declared.plan.Plan.{Plan}
use Rattle.imap_node.specs.declared.plan.PreparedInput.{PreparedInput}
use Rattle.imap_node.specs.declared.reply.Reply.TheVariants.{Done, Refused}
use Rattle.imap_node.specs.InputEffects.{InputEffect, answers_of_effect}
use Rattle.imap_node.specs.SessionFeeds.{AreChangeNotes}
use Rattle.imap_node.specs.SessionChanges.{CanChangeSession, changed_session}
use Rattle.imap_node.specs.Nodes.{NodeState, NodeWithRoom, ReplicaWithRoom}
use Rattle.imap_node.specs.Operations.{AreNext, clock_of, id_of}
use Rattle.imap_node.specs.Responses.{IsNodeAfter, IsStamp, Responds, IsInputEffect, answers_closed}
use Rattle.imap_node.specs.Responses.{ends_idling, leaves_mailbox, session_after, input_intent}
use Rattle.imap_node.specs.Rooms.{HasRoomFor}
use Rattle.imap_node.specs.Sessions.{IsOpen, without_idle, session_at, unselected, with_session}
use Rattle.uid_projection.specs.declared.first_numbers.Counters.{Counters}
use Rattle.uid_projection.specs.Exhaustion.{Exhausts}

-- The answers, the silent flags and the change of the session are those of an input's effect.
pub record IsPreparedReply (start : Counters) (before after : List Op) (session : Session)
    (input : Input) (answered : PreparedReply) : Type 0 where
  pub effect : InputEffect
  pub taken : IsInputEffect start before after session input effect
  pub answers : answered.answers ≡ answers_of_effect start after effect
  pub silent : answered.silent ≡ effect.silent
  pub becomes : changed_session session answered.update
      ≡ session_after start after session input effect

-- The input can be carried out, and this is its reply, with the operations that it issues.
pub record IsPreparedInput (start : Counters) (applied : List Op) (session : Session)
    (input : Input) (prepared : PreparedInput) : Type 0 where
  pub stamp : List ℕ
  pub stamped : IsStamp input stamp
  pub kinds : List Kind
  pub intended : input_intent start applied stamp session.state input ≡ Ok kinds
  pub next : AreNext start.replica applied kinds prepared.ops
  pub not_exhausted : Exhausts start applied prepared.ops → ⊥
  pub answered : IsPreparedReply start applied (applied ++ prepared.ops) session input
      prepared.answered
  pub copies : prepared.copies ≡ prepared.ops

-- The input can be carried out, after room was made for it in the replica `old`, which is then
-- `new`: its operations come next and have room if there are any, its change notes name what they
-- change, and the session can make its change after them.
pub record IsReadyInput (old new : ReplicaWithRoom) (session : Session) (input : Input)
    (prepared : PreparedInput) : Type 0 where
  pub reply : IsPreparedInput old.start old.applied session input prepared
  pub issued : AreIssued id_of clock_of old.applied prepared.ops
  pub room : (prepared.ops ≡ [] → ⊥) → HasRoomFor new.applied new.room prepared.ops
  pub changes : AreChangeNotes old.start old.applied (old.applied ++ prepared.ops)
      prepared.change_notes
  pub can : CanChangeSession old.start (old.applied ++ prepared.ops) session.state
      prepared.answered.update.state_change

-- A session after a step, and its place after the step.
abbrev pub session_after_step : Session → SessionStep → Session
session_after_step session Stays = session
session_after_step session Leaves = unselected session
session_after_step session Wakes = without_idle session
session_after_step session (Advances update) = changed_session session update

abbrev pub place_after_step : Option Session → SessionStep → Option Session
place_after_step None next = None
place_after_step (Some session) next = Some (session_after_step session next)

-- A session can take its next step after these operations.
abbrev pub CanStep : Counters → List Op → Session → SessionStep → Type 0
CanStep start ops session (Advances update) =
    CanChangeSession start ops session.state update.state_change
CanStep start ops session next = Unit {0}

-- The plan can be committed: its session is open, its operations come next and have room if there
-- are any, its change notes name what they change, and its session can take its next step after
-- them.
pub record IsPlanned (node : NodeWithRoom) (plan : Plan) : Type 0 where
  pub is_open : IsOpen node.state.sessions plan.number
  pub issued : AreIssued id_of clock_of node.state.applied plan.ops
  pub room : (plan.ops ≡ [] → ⊥) → HasRoomFor node.state.applied node.room plan.ops
  pub change_notes : AreChangeNotes node.state.start node.state.applied
      (node.state.applied ++ plan.ops) plan.change_notes
  pub can : (session : Session)
      → session_at node.state.sessions plan.number ≡ Some session
      → CanStep node.state.start (node.state.applied ++ plan.ops) session plan.next

-- The session after a plan is committed.
abbrev pub planned_session : NodeState → Plan → Option Session
planned_session node plan = place_after_step (session_at node.sessions plan.number) plan.next

-- The node after a plan is committed.
abbrev pub CommitsTo : NodeState → Plan → NodeState → Type 0
CommitsTo old plan new =
    IsNodeAfter old plan.ops (with_session old.sessions plan.number (planned_session old plan)) new

-- The plan's reply is the node's reply, once the plan is committed.
abbrev pub IsPlanOf : NodeState → ℕ → Input → Plan → Type 0
IsPlanOf old n input plan =
    (new : NodeState) → CommitsTo old plan new → Responds old n input plan.reply new

-- The next step of a session whose input is refused.
abbrev pub step_of_refusal : State → Input → Refusal → SessionStep
step_of_refusal state input why =
    if leaves_mailbox state input then Leaves else (if ends_idling input why then Wakes else Stays)

-- The plan of an input that can be carried out.
abbrev pub plan_of_prepared : ℕ → PreparedInput → Plan
plan_of_prepared n p =
    record {
      number = n;
      reply = Done p.answered.answers p.answered.silent p.copies;
      ops = p.ops;
      change_notes = p.change_notes;
      next = Advances p.answered.update;
    }

-- The plan for an outcome of `prepare_input`.
abbrev pub plan_by : ℕ → State → Input → Result PreparedInput Refusal → Plan
plan_by n state input (Ok p) = plan_of_prepared n p
plan_by n state input (Err why) =
    record {
      number = n;
      reply = Refused why (answers_closed state input why);
      ops = [];
      change_notes = [];
      next = step_of_refusal state input why;
    }
