-- EXPUNGE, UID EXPUNGE and CLOSE (RFC 9051, sections 6.4.3, 6.4.9 and 6.4.1).

use Rattle.std.specs.Prelude.{ℕ, true, List, [], ◌∷◌, flat_map, Option, Some, None, Result, Ok, Err}
use Rattle.std.specs.Prelude.{if◌then◌else◌}
use Rattle.crdt_ops.specs.declared.kind.Kind.{Kind}
use Rattle.crdt_ops.specs.declared.kind.Kind.TheVariants.{Expunge}
use Rattle.imap_answers.specs.declared.fixed_words.Refusal.{Refusal}
use Rattle.imap_answers.specs.declared.fixed_words.Refusal.TheVariants.{ReadOnly}
use Rattle.imap_types.specs.declared.sequence_set.SequenceRange.{SequenceRange}
use Rattle.mailbox_rows.specs.ListedMessage.{ListedMessage}
use Rattle.session_view.specs.Sets.{numbers_in_set}
use Rattle.session_view.specs.declared.view_entry.ViewEntry.{ViewEntry}
use Rattle.imap_commands.specs.Arguments.{OpenMailbox}
use Rattle.imap_commands.specs.Limits.{within_limits}
use Rattle.imap_commands.specs.Report.{CommandReport, gone_code, message_at}
use Rattle.imap_answers.specs.declared.fixed_words.CompletedWord.TheVariants as words
use Rattle.imap_commands.specs.CommandRules.{issuing_rule}
use Rattle.imap_commands.specs.declared.command_rule.CommandRule.{CommandRule}
use Rattle.imap_commands.specs.MailStates.{MailState, open_mailbox}
use Rattle.imap_commands.specs.SessionStates.{if_selected, report_if_selected}
use Rattle.imap_commands.specs.declared.session.State.{State}

-- The Expunge of a message, if one of its versions has `\Deleted`: it removes all of them.
abbrev pub expunge_of : List ℕ → ListedMessage → List Kind
expunge_of folder row = if row.flags.deleted then Expunge folder row.versions ∷ [] else []

-- The Expunges of all messages with `\Deleted`.
abbrev pub expunges_of : List ℕ → List ListedMessage → List Kind
expunges_of folder before = flat_map (expunge_of folder) before

-- The Expunge of a message, if the listing has it and it has `\Deleted`.
abbrev pub expunge_at : List ℕ → Option ListedMessage → List Kind
expunge_at folder None = []
expunge_at folder (Some row) = expunge_of folder row

-- The intent of EXPUNGE, or the first reason for refusing it: it removes all messages with
-- `\Deleted` (RFC 9051, section 6.4.3).
abbrev pub expunge_intent : OpenMailbox → Result (List Kind) Refusal
expunge_intent mailbox =
    if mailbox.read_only then Err ReadOnly
    else within_limits (expunges_of mailbox.name mailbox.rows)

-- The Expunges of the messages with these numbers and `\Deleted`.
abbrev pub expunges_at : List ℕ → List ListedMessage → List ViewEntry → List ℕ → List Kind
expunges_at folder before view numbers =
    flat_map (λ n. expunge_at folder (message_at before view n)) numbers

-- The intent of UID EXPUNGE, or the first reason for refusing it: it removes only messages that the
-- set names (RFC 9051, section 6.4.9).
abbrev pub uid_expunge_intent : OpenMailbox → List SequenceRange → Result (List Kind) Refusal
uid_expunge_intent mailbox uids =
    if mailbox.read_only then Err ReadOnly
    else within_limits
    (expunges_at mailbox.name mailbox.rows mailbox.view (numbers_in_set true uids mailbox.view))

-- The report of UID EXPUNGE, from the mailbox before it.
abbrev pub uid_expunge_report : OpenMailbox → List SequenceRange → CommandReport
uid_expunge_report mailbox uids =
    record {
      own = [];
      silent = [];
      code = gone_code mailbox.rows mailbox.view (numbers_in_set true uids mailbox.view);
    }

-- The intent of CLOSE: that of EXPUNGE, but nothing in a read-only mailbox (RFC 9051,
-- section 6.4.1).
abbrev pub close_intent : OpenMailbox → Result (List Kind) Refusal
close_intent mailbox =
    if mailbox.read_only then Ok [] else within_limits (expunges_of mailbox.name mailbox.rows)

-- The rules of EXPUNGE and UID EXPUNGE.
abbrev pub expunge_rule : CommandRule
expunge_rule = issuing_rule words.Expunge

abbrev pub uid_expunge_rule : CommandRule
uid_expunge_rule = issuing_rule words.UidExpunge

-- No sync follows CLOSE (RFC 9051, section 6.4.1).
abbrev pub close_rule : CommandRule
close_rule = record (issuing_rule words.Close) { sync = None }

-- ---- in a session

abbrev pub intent_to_close : MailState → State → Result (List Kind) Refusal
intent_to_close mail state =
    if_selected state (λ view read_only. close_intent (open_mailbox mail view read_only))

abbrev pub intent_to_expunge : MailState → State → Result (List Kind) Refusal
intent_to_expunge mail state =
    if_selected state (λ view read_only. expunge_intent (open_mailbox mail view read_only))

abbrev pub intent_to_uid_expunge : MailState → State → List SequenceRange
    → Result (List Kind) Refusal
intent_to_uid_expunge mail state uids =
    if_selected state (λ view read_only. uid_expunge_intent (open_mailbox mail view read_only) uids)

-- The report of UID EXPUNGE, given the replica before the command.
abbrev pub report_of_uid_expunge : MailState → State → List SequenceRange → CommandReport
report_of_uid_expunge before state uids =
    report_if_selected state
    (λ view read_only. uid_expunge_report (open_mailbox before view read_only) uids)
