-- A session's view after a reply: its silent flags and answers, replayed (RFC 9051, section 7).

use Rattle.std.specs.Prelude.{◌≡◌, ℕ, Bool, false, List, [], Option, Some, None, if◌then◌else◌}
use Rattle.crdt_ops.specs.declared.op.Op.{Op}
use Rattle.imap_answers.specs.declared.answer.Answer.{Answer}
use Rattle.imap_commands.specs.Commands as rules
use Rattle.imap_commands.specs.declared.session.Session.{Session}
use Rattle.imap_commands.specs.declared.session.State.{State}
use Rattle.imap_commands.specs.declared.session.State.TheVariants.{Selected}
use Rattle.imap_syntax.specs.declared.command.Command.{Command}
use Rattle.session_view.specs.Replay.{view_after_reply}
use Rattle.session_view.specs.ViewState.{ViewState}
use Rattle.session_view.specs.Views.{AreRising}
use Rattle.session_view.specs.declared.reply_replay.SilentFlags.{SilentFlags}
use Rattle.imap_node.specs.Commands.{is_selecting}
use Rattle.imap_node.specs.Mailboxes.{mail_state, rows_for}
use Rattle.imap_node.specs.Sessions.{Places, session_at}
use Rattle.imap_node.specs.declared.input.Input.{Input}
use Rattle.imap_node.specs.declared.input.Input.TheVariants as inputs
use Rattle.imap_node.specs.declared.reply.Reply.{Reply}
use Rattle.imap_node.specs.declared.reply.Reply.TheVariants.{Done, Refused}
use Rattle.uid_projection.specs.declared.first_numbers.Counters.{Counters}

-- The view of a session, given its state or its place; none if no mailbox is selected.
abbrev pub view_of : State → Option ViewState
view_of (Selected view read_only) = Some view
view_of _ = None

abbrev pub view_in : Option Session → Option ViewState
view_in None = None
view_in (Some session) = view_of session.state

-- The view of the session with this number; none if it isn't open or has no mailbox selected.
abbrev pub view_at : Places → ℕ → Option ViewState
view_at places n = view_in (session_at places n)

-- The view on which the answers to a command, or to any input, are replayed if it is carried out.
abbrev pub replay_base_of_command : Counters → List Op → Option ViewState → Command
    → Option ViewState
replay_base_of_command start ops view command =
    rules.replay_base_of_command (mail_state start ops) view command

abbrev pub replay_base_of : Counters → List Op → Option ViewState → Input → Option ViewState
replay_base_of start ops view (inputs.Command moment tagged) =
    replay_base_of_command start ops view tagged.command
replay_base_of start ops view (inputs.Line line) = view
replay_base_of start ops view inputs.Poll = view

-- A view with silent flags and answers replayed, given the messages that its mailbox has now.
abbrev pub view_after_replies : Counters → List Op → Option ViewState → List SilentFlags
    → List Answer → Option ViewState
view_after_replies start ops None silent answers = None
view_after_replies start ops (Some view) silent answers =
    Some (record view {
      entries = view_after_reply (rows_for start ops view) view.entries silent answers;
    })

-- A SELECT or an EXAMINE, which leaves the selected mailbox even if it is refused (RFC 9051,
-- section 6.3.2).
abbrev pub selects : Input → Bool
selects (inputs.Command moment tagged) = is_selecting tagged.command
selects (inputs.Line line) = false
selects inputs.Poll = false

-- A view after the reply to an input, given these operations: its silent flags and answers,
-- replayed.
abbrev pub view_after_input : Counters → List Op → Option ViewState → Input → Reply
    → Option ViewState
view_after_input start ops view input (Done answers silent issued) =
    view_after_replies start ops (replay_base_of start ops view input) silent answers
view_after_input start ops view input (Refused why closed) = if selects input then None else view

-- The UIDs of each session's view ascend strictly (RFC 9051, section 2.3.1.1).
abbrev pub ViewsAscend : Places → Type 0
ViewsAscend places =
    (n : ℕ) (view : ViewState) → view_at places n ≡ Some view → AreRising 1 view.entries
