-- The rules of commands, which `imap_commands` defines, at a replica with some operations; and what
-- is sent to a session when mod-sequences are turned on (RFC 7162, section 3.1).

use Rattle.std.specs.Prelude.{◌==◌, ℕ, Bool, not, ◌&&◌, List, [], ◌∷◌, Option, Some, None, Result}
use Rattle.std.specs.Prelude.{if◌then◌else◌}
use Rattle.crdt_ops.specs.declared.kind.Kind.{Kind}
use Rattle.crdt_ops.specs.declared.op.Op.{Op}
use Rattle.imap_answers.specs.declared.answer.Answer.{Answer}
use Rattle.imap_answers.specs.declared.answer.Answer.TheVariants.{UntaggedOk}
use Rattle.imap_answers.specs.declared.codes.Notice.TheVariants.{HighestModSeq}
use Rattle.imap_answers.specs.declared.fixed_words.Refusal.{Refusal}
pub use Rattle.imap_commands.specs.CommandRules.{sync_kind_by}
use Rattle.imap_commands.specs.Commands as rules
pub use Rattle.imap_commands.specs.Commands.{is_enabling, is_idle, is_selecting, sync_of, word_of}
use Rattle.imap_commands.specs.NamedMessages.{NamedMessages}
pub use Rattle.imap_commands.specs.NamedMessages.{messages_named_if_selected}
use Rattle.imap_commands.specs.Report.{CommandReport}
use Rattle.imap_commands.specs.SearchCommand.{IsReportOfSearch}
pub use Rattle.imap_commands.specs.SessionStates.{before_login, if_logged_in, if_selected}
pub use Rattle.imap_commands.specs.SessionStates.{is_logged_in, is_selected, report_if_selected}
use Rattle.imap_commands.specs.declared.session.State.{State}
use Rattle.imap_commands.specs.declared.session.State.TheVariants.{Selected}
use Rattle.imap_syntax.specs.declared.command.Command.{Command}
use Rattle.imap_node.specs.Mailboxes.{mail_state}
use Rattle.uid_projection.specs.declared.first_numbers.Counters.{Counters}
use Rattle.uid_projection.specs.Incarnations.{uidvalidity_of}
use Rattle.uid_projection.specs.UidsAndModSeqs.{highest_modseq_of}
use Rattle.imap_syntax.specs.declared.arguments.Search.{Search}

-- What a command issues after the operations `ops`, or the first reason to refuse it. The stamp is
-- the date-time of the command's moment.
abbrev pub command_intent : Counters → List Op → List ℕ → State → Command
    → Result (List Kind) Refusal
command_intent start ops stamp state command =
    rules.command_intent (mail_state start ops) stamp state command

-- The messages that a command names, after the operations `ops` and before its own.
abbrev pub messages_named_by_command : Counters → List Op → State → Command → NamedMessages
messages_named_by_command start ops state command =
    rules.messages_named_by_command (mail_state start ops) state command

-- A command's own report, given the operations before it and those with its own; empty for SELECT,
-- EXAMINE, LIST and SEARCH, which `IsCommandReport` defines.
abbrev pub command_report : Counters → List Op → List Op → State → Bool → Command → CommandReport
command_report start before after state modseq command =
    rules.command_report (mail_state start before) (mail_state start after) state modseq command

-- The report is a SEARCH's own, given the operations before it, of which it issues none.
abbrev pub IsSearchReportIfSelected : Counters → List Op → State → List ℕ → Search
    → CommandReport → Type 0
IsSearchReportIfSelected start ops state tag request report =
    IsReportOfSearch (mail_state start ops) state tag request report

-- `report` is a command's own report; for SELECT, EXAMINE, LIST and SEARCH, the only report that
-- their rules allow.
abbrev pub IsCommandReport : Counters → List Op → List Op → State → Bool → List ℕ → Command
    → CommandReport → Type 0
IsCommandReport start before after state modseq tag command report =
    rules.IsCommandReport (mail_state start before) (mail_state start after) state modseq tag
    command report

-- The state after a command, before its answers are replayed.
abbrev pub state_after_command : Counters → List Op → State → Command → State
state_after_command start ops state command =
    rules.state_after_command (mail_state start ops) state command

-- ---- mod-sequences (RFC 7162, section 3.1)

-- HIGHESTMODSEQ of a view's mailbox, if its incarnation hasn't ended.
abbrev pub highest_answer : ℕ → Option ℕ → ℕ → List Answer
highest_answer uidvalidity None highest = []
highest_answer uidvalidity (Some now) highest =
    if now == uidvalidity then UntaggedOk (HighestModSeq highest) ∷ [] else []

abbrev pub highest_answer_of : Counters → List Op → State → List Answer
highest_answer_of start ops (Selected view read_only) =
    highest_answer view.uidvalidity (uidvalidity_of start view.name ops)
    (highest_modseq_of view.name ops)
highest_answer_of start ops _ = []

-- A command turns on mod-sequences that were off. SELECT and EXAMINE are left out, since they
-- report HIGHESTMODSEQ anyway.
abbrev pub enables_condstore : Bool → Command → Bool
enables_condstore condstore command =
    not condstore && (is_enabling command && not (is_selecting command))

-- The answers that such a command sends first while a mailbox is selected.
abbrev pub condstore_answer : Counters → List Op → State → Bool → Command → List Answer
condstore_answer start ops state condstore command =
    if enables_condstore condstore command then highest_answer_of start ops state else []
