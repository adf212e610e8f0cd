-- What a node replies to an input, and the node after it (RFC 9051, section 6; RFC 2177, section
-- 3).

use Rattle.std.specs.Prelude.{◌≡◌, ◌⊎◌, ℕ, Bool, true, false, ◌||◌, ◌&&◌, List, [], ◌∷◌, ◌++◌}
use Rattle.std.specs.Prelude.{Option, Some, None, Result, Ok, Err, if◌then◌else◌}
use Rattle.causal_inbox.specs.Inbox.{AreRemainingHeld}
use Rattle.crdt_ops.specs.declared.kind.Kind.{Kind}
use Rattle.crdt_ops.specs.declared.op.Op.{Op}
use Rattle.imap_answers.specs.declared.answer.Answer.{Answer}
use Rattle.imap_answers.specs.declared.answer.Answer.TheVariants.{Completed}
use Rattle.imap_answers.specs.declared.codes.Code.{Code}
use Rattle.imap_answers.specs.declared.fixed_words.CompletedWord.TheVariants as words
use Rattle.imap_answers.specs.declared.fixed_words.Refusal.{Refusal}
use Rattle.imap_answers.specs.declared.fixed_words.Refusal.TheVariants.{DoneExpected, NoMemory}
use Rattle.imap_answers.specs.declared.fixed_words.Refusal.TheVariants.{NumberUsedUp}
use Rattle.imap_commands.specs.Commands.{IsStampFor}
use Rattle.imap_commands.specs.NamedMessages.{NamedMessages, no_messages_named}
use Rattle.imap_commands.specs.Report.{CommandReport}
use Rattle.imap_commands.specs.declared.session.Session.{Session}
use Rattle.imap_commands.specs.declared.session.State.{State}
use Rattle.imap_commands.specs.declared.session.State.TheVariants.{Authenticated}
use Rattle.imap_syntax.specs.declared.command.Command.{Command}
use Rattle.imap_syntax.specs.declared.command.Command.TheVariants as commands
use Rattle.imap_syntax.specs.declared.command.Tagged.{Tagged}
use Rattle.imap_syntax.specs.declared.idle.IdleLine.TheVariants.{Done as DoneLine, Other}
use Rattle.session_view.specs.declared.view_entry.SyncKind.TheVariants.{Full}
use Rattle.session_view.specs.declared.reply_replay.SilentFlags.{SilentFlags}
use Rattle.imap_node.specs.declared.input.Input.{Input}
use Rattle.imap_node.specs.declared.input.Input.TheVariants as inputs
use Rattle.imap_node.specs.declared.reply.Reply.{Reply}
use Rattle.imap_node.specs.declared.reply.Reply.TheVariants.{Done, Refused}
use Rattle.imap_node.specs.Commands.{IsCommandReport, messages_named_by_command, is_enabling}
use Rattle.imap_node.specs.Commands.{is_idle, is_selected, is_selecting, state_after_command}
use Rattle.imap_node.specs.Commands.{condstore_answer, sync_of, command_intent, word_of}
use Rattle.imap_node.specs.InputEffects.{InputEffect, answers_of_effect, sync_result_of}
use Rattle.imap_node.specs.Nodes.{NodeState}
use Rattle.imap_node.specs.Operations.{AreNext, ExceedsCounters, id_of}
use Rattle.imap_node.specs.Sessions.{Places, session_at, with_session}
use Rattle.uid_projection.specs.declared.first_numbers.Counters.{Counters}
use Rattle.uid_projection.specs.Exhaustion.{Exhausts}

-- ---- what an input issues

-- The date-time that an input records.
abbrev pub IsStamp : Input → List ℕ → Type 0
IsStamp (inputs.Command moment tagged) stamp = IsStampFor tagged.command moment stamp
IsStamp (inputs.Line line) stamp = Unit {0}
IsStamp inputs.Poll stamp = Unit {0}

-- What an input issues, or the first reason to refuse it. A line that isn't DONE is refused (RFC
-- 2177, section 3).
abbrev pub input_intent : Counters → List Op → List ℕ → State → Input → Result (List Kind) Refusal
input_intent start ops stamp state (inputs.Command moment tagged) =
    command_intent start ops stamp state tagged.command
input_intent start ops stamp state (inputs.Line DoneLine) = Ok []
input_intent start ops stamp state (inputs.Line Other) = Err DoneExpected
input_intent start ops stamp state inputs.Poll = Ok []

-- The messages that an input names.
abbrev pub messages_named_by_input : Counters → List Op → State → Input → NamedMessages
messages_named_by_input start ops state (inputs.Command moment tagged) =
    messages_named_by_command start ops state tagged.command
messages_named_by_input start ops state _ = no_messages_named

-- ---- an input that is carried out

-- Mod-sequences are on, including for this command (RFC 7162, section 3.1).
abbrev pub condstore_is_on : Session → Command → Bool
condstore_is_on session command = session.condstore || is_enabling command

-- The tagged line of a command; none for IDLE, whose tagged line is sent when it ends.
abbrev pub tagged_lines_of : List ℕ → Command → Option Code → List Answer
tagged_lines_of tag command code =
    if is_idle command then [] else Completed tag code (word_of command) ∷ []

-- The tagged line of an IDLE that ends.
abbrev pub tagged_lines_of_idle : Option (List ℕ) → List Answer
tagged_lines_of_idle None = []
tagged_lines_of_idle (Some tag) = Completed tag None words.Idle ∷ []

-- The effect of a command with this report; the report's answers are sent after the answers
-- `first`.
abbrev pub report_effect : List Answer → CommandReport → State → Bool → List ℕ → Command
    → InputEffect
report_effect first report state modseq tag command =
    record {
      silent = report.silent;
      own = first ++ report.own;
      sync = sync_of command;
      modseq = modseq;
      state = state;
      tail = tagged_lines_of tag command report.code;
    }

-- The effect of a command, given its report.
abbrev pub command_effect : Counters → List Op → Session → List ℕ → Command → CommandReport
    → InputEffect
command_effect start ops session tag command report =
    report_effect (condstore_answer start ops session.state session.condstore command) report
    (state_after_command start ops session.state command) (condstore_is_on session command) tag
    command

abbrev pub IsCommandEffect : Counters → List Op → List Op → Session → Tagged → InputEffect → Type 0
IsCommandEffect start before after session tagged effect =
    (report : CommandReport)
    × IsCommandReport start before after session.state (condstore_is_on session tagged.command)
    tagged.tag tagged.command report
    × (effect ≡ command_effect start after session tagged.tag tagged.command report)

-- The effect of an input that is only a full sync, with `tail` sent after it.
abbrev pub sync_effect : Session → List Answer → InputEffect
sync_effect session tail =
    record {
      silent = [];
      own = [];
      sync = Some Full;
      modseq = session.condstore;
      state = session.state;
      tail = tail;
    }

-- The effect of an input, given the operations before it and those with its own.
abbrev pub IsInputEffect : Counters → List Op → List Op → Session → Input → InputEffect → Type 0
IsInputEffect start before after session (inputs.Command moment tagged) effect =
    IsCommandEffect start before after session tagged effect
IsInputEffect start before after session (inputs.Line line) effect =
    effect ≡ sync_effect session (tagged_lines_of_idle session.idling)
IsInputEffect start before after session inputs.Poll effect = effect ≡ sync_effect session []

-- The tag of the IDLE that a command begins, if it begins one.
abbrev pub tag_of_idle : Tagged → Option (List ℕ)
tag_of_idle tagged = if is_idle tagged.command then Some tagged.tag else None

-- The tag of the IDLE that continues after an input, if one does; and whether mod-sequences are on
-- then.
abbrev pub idling_after : Session → Input → Option (List ℕ)
idling_after session (inputs.Command moment tagged) = tag_of_idle tagged
idling_after session (inputs.Line line) = None
idling_after session inputs.Poll = session.idling

abbrev pub condstore_after : Session → Input → Bool
condstore_after session (inputs.Command moment tagged) = condstore_is_on session tagged.command
condstore_after session _ = session.condstore

-- The session after an input that is carried out.
abbrev pub session_after : Counters → List Op → Session → Input → InputEffect → Session
session_after start ops session input effect =
    record {
      state = (sync_result_of start ops effect).state;
      condstore = condstore_after session input;
      idling = idling_after session input;
    }

-- ---- an input that is refused

-- A refused SELECT or EXAMINE leaves no mailbox selected (RFC 9051, section 6.3.2).
abbrev pub leaves_mailbox : State → Input → Bool
leaves_mailbox state (inputs.Command moment tagged) =
    is_selected state && is_selecting tagged.command
leaves_mailbox state _ = false

-- A line that isn't DONE ends the IDLE; a line refused because memory ran out doesn't.
abbrev pub ends_idling : Input → Refusal → Bool
ends_idling (inputs.Line line) NoMemory = false
ends_idling (inputs.Line line) _ = true
ends_idling _ why = false

-- The session after a refusal.
abbrev pub session_after_refusal : Session → Input → Refusal → Session
session_after_refusal session input why = record {
  state = if leaves_mailbox session.state input then Authenticated else session.state;
  condstore = session.condstore;
  idling = if ends_idling input why then None else session.idling;
}

-- The answer to a refused input says that a mailbox was left; not if memory ran out.
abbrev pub answers_closed : State → Input → Refusal → Bool
answers_closed state input NoMemory = false
answers_closed state input _ = leaves_mailbox state input

-- Why an input is refused: the first reason to refuse it, or a counter that is used up. Memory
-- running out may take the place of either.
abbrev pub IsRefused : Counters → List Op → State → Input → Refusal → Type 0
IsRefused start ops state input why =
    (why ≡ NoMemory)
    ⊎ ((stamp : List ℕ) × IsStamp input stamp
    × ((input_intent start ops stamp state input ≡ Err why)
    ⊎ ((why ≡ NumberUsedUp) × (kinds : List Kind)
    × (input_intent start ops stamp state input ≡ Ok kinds) × ExceedsCounters start ops kinds)))

-- ---- the response

-- The held operations after these were issued: all of them if none was issued.
abbrev pub AreHeldAfter : List Op → List Op → List Op → Type 0
AreHeldAfter [] old new = new ≡ old
AreHeldAfter (op ∷ ops) old new = AreRemainingHeld id_of (op ∷ ops) old new

-- The node issued these operations, and has these sessions. The operations come after those
-- applied, and a held one with the id of one of them is dropped.
pub record IsNodeAfter (old : NodeState) (ops : List Op) (places : Places) (new : NodeState) :
    Type 0 where
  pub start : new.start ≡ old.start
  pub applied : new.applied ≡ old.applied ++ ops
  pub held : AreHeldAfter ops old.held new.held
  pub sessions : new.sessions ≡ places

-- An input is carried out whole: its operations are issued, and the answers are those of its
-- effect.
pub record CarriesOut (old : NodeState) (n : ℕ) (session : Session) (input : Input)
    (answers : List Answer) (silent : List SilentFlags) (issued : List Op) (new : NodeState) :
    Type 0 where
  pub stamp : List ℕ
  pub stamped : IsStamp input stamp
  pub kinds : List Kind
  pub intended : input_intent old.start old.applied stamp session.state input ≡ Ok kinds
  pub next : AreNext old.start.replica old.applied kinds issued
  pub not_exhausted : Exhausts old.start old.applied issued → ⊥
  pub effect : InputEffect
  pub taken : IsInputEffect old.start old.applied (old.applied ++ issued) session input effect
  pub answers_are : answers ≡ answers_of_effect old.start (old.applied ++ issued) effect
  pub silent_is : silent ≡ effect.silent
  pub becomes : IsNodeAfter old issued
      (with_session old.sessions n
      (Some (session_after old.start (old.applied ++ issued) session input effect))) new

-- What a node replies to an input of a session, and the node after it.
abbrev pub IsReply : NodeState → ℕ → Session → Input → Reply → NodeState → Type 0
IsReply old n session input (Done answers silent issued) new =
    CarriesOut old n session input answers silent issued new
IsReply old n session input (Refused why closed) new =
    IsRefused old.start old.applied session.state input why
    × (closed ≡ answers_closed session.state input why)
    × IsNodeAfter old []
    (with_session old.sessions n (Some (session_after_refusal session input why))) new

abbrev pub Responds : NodeState → ℕ → Input → Reply → NodeState → Type 0
Responds old n input reply new =
    (session : Session)
    × (session_at old.sessions n ≡ Some session)
    × IsReply old n session input reply new
