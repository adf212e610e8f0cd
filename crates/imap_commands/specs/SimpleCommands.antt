-- CAPABILITY, LIST, NAMESPACE and STATUS, and the one answer of LOGOUT and of IDLE (RFC 9051,
-- sections 6.1 and 6.3; RFC 2177).

use Rattle.std.specs.Prelude.{◌≡◌, ℕ, Bool, true, List, [], ◌∷◌, None, Result, Ok, Err}
use Rattle.std.specs.Prelude.{if◌then◌else◌}
use Rattle.crdt_ops.specs.declared.kind.Kind.{Kind}
use Rattle.imap_answers.specs.declared.answer.Answer.TheVariants.{Bye, Capability, Continue}
use Rattle.imap_answers.specs.declared.answer.Answer.TheVariants.{Namespace, Status}
use Rattle.imap_answers.specs.declared.fixed_words.ByeReason.TheVariants.{LoggingOut}
use Rattle.imap_answers.specs.declared.fixed_words.Continuation.TheVariants.{Idling}
use Rattle.imap_answers.specs.declared.fixed_words.Refusal.{Refusal}
use Rattle.imap_answers.specs.declared.fixed_words.Refusal.TheVariants.{NoSuchMailbox}
use Rattle.imap_syntax.specs.declared.status.StatusItem.{StatusItem}
use Rattle.imap_query.specs.declared.mailbox_status.MailboxCounters.{MailboxCounters}
use Rattle.imap_query.specs.declared.list_answers.ListMode.{ListMode}
use Rattle.imap_query.specs.ListNames.{ListsNames}
use Rattle.imap_query.specs.Status.{status_of}
use Rattle.mailbox_rows.specs.ListedMessage.{ListedMessage}
use Rattle.imap_commands.specs.Report.{CommandReport, report_of_answers}
use Rattle.imap_answers.specs.declared.fixed_words.CompletedWord.TheVariants as words
use Rattle.imap_commands.specs.EnableCommand.{status_asks_modseq}
use Rattle.imap_commands.specs.CommandRules.{brief_rule, plain_rule}
use Rattle.imap_commands.specs.declared.command_rule.CommandRule.{CommandRule}
use Rattle.imap_syntax.specs.declared.arguments.ListNames.{ListNames}
use Rattle.imap_commands.specs.MailStates.{MailState, counters_in}
use Rattle.imap_commands.specs.SessionStates.{if_logged_in}
use Rattle.imap_commands.specs.declared.session.State.{State}

-- The report of LIST: the answers for the folders and the subscriptions, and nothing else
-- (RFC 9051, section 6.3.9).
pub record IsListReport (mode : ListMode) (reference pattern : List ℕ)
    (folders subscriptions : List (List ℕ)) (report : CommandReport) : Type 0 where
  pub names : ListsNames mode reference pattern folders subscriptions report.own
  pub only : report ≡ report_of_answers report.own

-- The intent of STATUS, which issues nothing, if the mailbox exists (RFC 9051, section 6.3.11).
abbrev pub status_intent : Bool → Result (List Kind) Refusal
status_intent exists = if exists then Ok [] else Err NoSuchMailbox

-- The report of STATUS, from the mailbox's listing and counters.
abbrev pub status_report : List ℕ → List StatusItem → MailboxCounters → List ListedMessage
    → CommandReport
status_report name items counters rows =
    report_of_answers (Status name (status_of items counters rows) ∷ [])

-- The report of CAPABILITY (RFC 9051, section 6.1.1).
abbrev pub capability_report : CommandReport
capability_report = report_of_answers (Capability ∷ [])

-- The report of NAMESPACE (RFC 9051, section 6.3.10).
abbrev pub namespace_report : CommandReport
namespace_report = report_of_answers (Namespace ∷ [])

-- The report of LOGOUT (RFC 9051, section 6.1.3).
abbrev pub logout_report : CommandReport
logout_report = report_of_answers (Bye LoggingOut ∷ [])

-- The report when an IDLE begins (RFC 2177, section 3).
abbrev pub idle_report : CommandReport
idle_report = report_of_answers (Continue Idling ∷ [])

-- The rules of commands that need no mailbox, and of LIST and STATUS.
abbrev pub capability_rule : CommandRule
capability_rule = brief_rule words.Capability

abbrev pub noop_rule : CommandRule
noop_rule = brief_rule words.Noop

abbrev pub namespace_rule : CommandRule
namespace_rule = brief_rule words.Namespace

abbrev pub list_rule : CommandRule
list_rule = plain_rule words.List

-- STATUS turns mod-sequences on if it asks for HIGHESTMODSEQ (RFC 7162, section 3.1).
abbrev pub status_rule : List StatusItem → CommandRule
status_rule items =
    record (plain_rule words.Status) { enables_condstore = status_asks_modseq items }

-- No sync follows LOGOUT.
abbrev pub logout_rule : CommandRule
logout_rule = record (plain_rule words.Logout) { sync = None }

-- No sync follows IDLE, whose tagged line is sent when it ends (RFC 2177, section 3).
abbrev pub idle_rule : CommandRule
idle_rule = record (plain_rule words.Idle) { sync = None; idles = true }

-- The intent of STATUS in a session.
abbrev pub intent_to_status : MailState → State → List ℕ → Result (List Kind) Refusal
intent_to_status mail state name = if_logged_in state (status_intent (mail.exists name))

-- The report of STATUS on a mailbox as it is after the command.
abbrev pub report_of_status : MailState → List ℕ → List StatusItem → CommandReport
report_of_status mail name items =
    status_report name items (counters_in mail name) (mail.listing name)

-- The report of LIST on a replica's mailboxes and subscriptions.
abbrev pub IsReportOfList : MailState → ListNames → CommandReport → Type 0
IsReportOfList mail request report =
    IsListReport
    (record {
      subscribed_only = request.subscribed_only;
      return_subscribed = request.return_subscribed;
    })
    request.reference request.pattern mail.folders mail.subscribed_names report
