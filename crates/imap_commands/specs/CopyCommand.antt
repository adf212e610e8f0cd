-- COPY and MOVE (RFC 9051, sections 6.4.7 and 6.4.8).

use Rattle.std.specs.Prelude.{ℕ, ◌-◌, Bool, true, not, List, [], ◌∷◌, ◌++◌, map, flat_map, Option}
use Rattle.std.specs.Prelude.{Some, None, Result, Err, if◌then◌else◌}
use Rattle.crdt_ops.specs.declared.kind.Kind.{Kind}
use Rattle.crdt_ops.specs.declared.kind.Kind.TheVariants.{Append, Expunge}
use Rattle.imap_answers.specs.declared.answer.Answer.{Answer}
use Rattle.imap_answers.specs.declared.answer.Answer.TheVariants.{UntaggedOk}
use Rattle.imap_answers.specs.declared.codes.Code.{Code}
use Rattle.imap_answers.specs.declared.codes.Code.TheVariants as codes
use Rattle.imap_answers.specs.declared.codes.Notice.TheVariants as notice
use Rattle.imap_answers.specs.declared.fixed_words.Refusal.{Refusal}
use Rattle.imap_answers.specs.declared.fixed_words.Refusal.TheVariants.{NoDestination}
use Rattle.imap_answers.specs.declared.fixed_words.Refusal.TheVariants.{NoSuchMessage, ReadOnly}
use Rattle.mailbox_rows.specs.ListedMessage.{ListedMessage}
use Rattle.mailbox_rows.specs.RowViews.{rows_after_uid}
use Rattle.session_view.specs.Sets.{is_in_range, numbers_in_set}
use Rattle.session_view.specs.declared.view_entry.ViewEntry.{ViewEntry}
use Rattle.imap_commands.specs.Arguments.{CopyTarget, OpenMailbox}
use Rattle.imap_commands.specs.Limits.{within_limits}
use Rattle.imap_commands.specs.MessageNames.{names_of, existing_messages}
use Rattle.imap_commands.specs.Report.{CommandReport, gone_code, message_at}
use Rattle.imap_answers.specs.declared.fixed_words.CompletedWord.TheVariants as words
use Rattle.imap_syntax.specs.declared.arguments.Transfer.{Transfer}
use Rattle.imap_commands.specs.CommandRules.{issuing_rule}
use Rattle.imap_commands.specs.declared.command_rule.CommandRule.{CommandRule}
use Rattle.imap_commands.specs.MailStates.{MailState, copy_target, open_mailbox}
use Rattle.imap_commands.specs.SessionStates.{if_selected, report_if_selected}
use Rattle.imap_commands.specs.declared.session.State.{State}

-- The Append of a message's copy, with its flags, date and text: one version in place of all the
-- message's versions.
abbrev pub append_of : List ℕ → Option ListedMessage → List Kind
append_of destination None = []
append_of destination (Some row) = Append destination row.flags row.date row.text ∷ []

-- The Appends of the messages with these numbers.
abbrev pub appends_of : List ℕ → List ListedMessage → List ViewEntry → List ℕ → List Kind
appends_of destination before view numbers =
    flat_map (λ n. append_of destination (message_at before view n)) numbers

-- The Expunge of a moved message, whether or not it has `\Deleted`: it removes all versions of the
-- message.
abbrev pub expunge_of_moved : List ℕ → Option ListedMessage → List Kind
expunge_of_moved folder None = []
expunge_of_moved folder (Some row) = Expunge folder row.versions ∷ []

-- The Expunges of the messages with these numbers.
abbrev pub expunges_of_moved : List ℕ → List ListedMessage → List ViewEntry → List ℕ → List Kind
expunges_of_moved folder before view numbers =
    flat_map (λ n. expunge_of_moved folder (message_at before view n)) numbers

-- The intent of COPY, or the first reason for refusing it (RFC 9051, section 6.4.7). `exists`
-- says whether the destination exists.
abbrev pub copy_intent : OpenMailbox → Transfer → Bool → Result (List Kind) Refusal
copy_intent mailbox request exists =
    if not (is_in_range request.by_uid request.messages mailbox.view) then Err NoSuchMessage
    else (if not exists then Err NoDestination
    else within_limits (appends_of request.name mailbox.rows mailbox.view
    (numbers_in_set request.by_uid request.messages mailbox.view)))

-- The intent of MOVE, or the first reason for refusing it: all Appends first, and then the Expunges
-- (RFC 9051, section 6.4.8).
abbrev pub move_intent : OpenMailbox → Transfer → Bool → Result (List Kind) Refusal
move_intent mailbox request exists =
    if not (is_in_range request.by_uid request.messages mailbox.view) then Err NoSuchMessage
    else (if mailbox.read_only then Err ReadOnly
    else (if not exists then Err NoDestination
    else within_limits (
    appends_of request.name mailbox.rows mailbox.view
    (numbers_in_set request.by_uid request.messages mailbox.view)
    ++ expunges_of_moved mailbox.name mailbox.rows mailbox.view
    (numbers_in_set request.by_uid request.messages mailbox.view)
    )))

-- The UIDs of the copied messages among those with these numbers.
abbrev pub sources_of : List ListedMessage → List ViewEntry → List ℕ → List ℕ
sources_of before view numbers = names_of true view (existing_messages before view numbers)

-- The UIDs of their copies: after the command, those UIDs of the destination that are at least its
-- UIDNEXT before the command.
abbrev pub copies_in : ℕ → List ListedMessage → List ℕ
copies_in uidnext target_rows = map (λ row. row.uid) (rows_after_uid (uidnext - 1) target_rows)

-- The code of a COPY: COPYUID, or `code` if nothing was copied.
abbrev pub copied_code : ℕ → List ℕ → List ℕ → Option Code → Option Code
copied_code uidvalidity [] copies code = code
copied_code uidvalidity (n ∷ sources) copies code =
    Some (codes.CopyUid uidvalidity (n ∷ sources) copies)

-- The answers of a MOVE: COPYUID, unless nothing was copied.
abbrev pub moved_answers : ℕ → List ℕ → List ℕ → List Answer
moved_answers uidvalidity [] copies = []
moved_answers uidvalidity (n ∷ sources) copies =
    UntaggedOk (notice.CopyUid uidvalidity (n ∷ sources) copies) ∷ []

-- The report of COPY, from the mailbox before it and the destination (RFC 9051, sections 6.4.7 and
-- 7.1).
abbrev pub copy_report : OpenMailbox → Transfer → CopyTarget → CommandReport
copy_report mailbox request target =
    let numbers = numbers_in_set request.by_uid request.messages mailbox.view in
    record {
      own = [];
      silent = [];
      code =
          copied_code target.uidvalidity (sources_of mailbox.rows mailbox.view numbers)
          (copies_in target.uidnext target.rows) (gone_code mailbox.rows mailbox.view numbers);
    }

-- The report of MOVE, from the mailbox before it and the destination (RFC 9051, section 6.4.8).
abbrev pub move_report : OpenMailbox → Transfer → CopyTarget → CommandReport
move_report mailbox request target =
    let numbers = numbers_in_set request.by_uid request.messages mailbox.view in
    record {
      own =
          moved_answers target.uidvalidity (sources_of mailbox.rows mailbox.view numbers)
          (copies_in target.uidnext target.rows);
      silent = [];
      code = gone_code mailbox.rows mailbox.view numbers;
    }

-- The rules of COPY and MOVE.
abbrev pub copy_rule : Transfer → CommandRule
copy_rule request = issuing_rule (if request.by_uid then words.UidCopy else words.Copy)

abbrev pub move_rule : Transfer → CommandRule
move_rule request = issuing_rule (if request.by_uid then words.UidMove else words.Move)

-- ---- in a session

-- The intents of COPY and MOVE in a session.
abbrev pub intent_to_copy : MailState → State → Transfer → Result (List Kind) Refusal
intent_to_copy mail state request =
    if_selected state (λ view read_only. copy_intent (open_mailbox mail view read_only) request
    (mail.exists request.name))

abbrev pub intent_to_move : MailState → State → Transfer → Result (List Kind) Refusal
intent_to_move mail state request =
    if_selected state (λ view read_only. move_intent (open_mailbox mail view read_only) request
    (mail.exists request.name))

-- The reports of COPY and MOVE in a session, given the replica before the command and after it.
abbrev pub report_of_copy : MailState → MailState → State → Transfer → CommandReport
report_of_copy before after state request =
    report_if_selected state (λ view read_only. copy_report (open_mailbox before view read_only)
    request (copy_target before after request.name))

abbrev pub report_of_move : MailState → MailState → State → Transfer → CommandReport
report_of_move before after state request =
    report_if_selected state (λ view read_only. move_report (open_mailbox before view read_only)
    request (copy_target before after request.name))
