-- APPEND (RFC 9051, section 6.3.12).

use Rattle.std.specs.Prelude.{ℕ, nat_lt, Bool, List, [], ◌∷◌, length, Option, Some, None, Result}
use Rattle.std.specs.Prelude.{Ok, Err, if◌then◌else◌}
use Rattle.std.specs.List.{list_all}
use Rattle.crdt_ops.specs.declared.kind.Kind.{Kind}
use Rattle.crdt_ops.specs.declared.kind.Kind.TheVariants.{Append}
use Rattle.imap_answers.specs.declared.codes.Code.TheVariants.{AppendUid}
use Rattle.imap_answers.specs.declared.fixed_words.Refusal.{Refusal}
use Rattle.imap_answers.specs.declared.fixed_words.Refusal.TheVariants.{KeywordTooLong}
use Rattle.imap_answers.specs.declared.fixed_words.Refusal.TheVariants.{NoDestination}
use Rattle.imap_answers.specs.declared.fixed_words.Refusal.TheVariants.{TooManyKeywords}
use Rattle.imap_types.specs.Keywords.{is_lawful_keyword}
use Rattle.imap_commands.specs.Report.{CommandReport}
use Rattle.imap_answers.specs.declared.fixed_words.CompletedWord.TheVariants as words
use Rattle.imap_commands.specs.CommandRules.{issuing_rule}
use Rattle.imap_commands.specs.declared.command_rule.CommandRule.{CommandRule}
use Rattle.imap_syntax.specs.declared.arguments.Append.{Append as Request}
use Rattle.imap_commands.specs.MailStates.{MailState, validity_in}
use Rattle.imap_commands.specs.SessionStates.{if_logged_in}
use Rattle.imap_commands.specs.declared.session.State.{State}

-- The date-time of an appended message: that of the command, or the current one, `stamp` (RFC 9051,
-- section 6.3.12).
abbrev pub given_date : Option (List ℕ) → List ℕ → List ℕ
given_date None stamp = stamp
given_date (Some date) stamp = date

-- The intent of APPEND (RFC 9051, section 6.3.12). `exists` says whether the mailbox exists;
-- `stamp` is the current date-time. A keyword that no message may bear is refused as too long,
-- since keywords in commands have no other fault.
abbrev pub append_intent : Bool → List ℕ → Request → Result (List Kind) Refusal
append_intent exists stamp request =
    if exists
    then (
    if list_all is_lawful_keyword request.flags.keywords
    then (if nat_lt 32 (length request.flags.keywords) then Err TooManyKeywords
    else Ok (Append request.name request.flags (given_date request.date stamp) request.text ∷ []))
    else Err KeywordTooLong
    )
    else Err NoDestination

-- The report of APPEND: APPENDUID with the message's UID (RFC 9051, section 7.1).
abbrev pub append_report : ℕ → ℕ → CommandReport
append_report uidvalidity uid =
    record { own = []; silent = []; code = Some (AppendUid uidvalidity uid) }

-- The rule of APPEND.
abbrev pub append_rule : CommandRule
append_rule = issuing_rule words.Append

-- The intent of APPEND in a session.
abbrev pub intent_to_append : MailState → List ℕ → State → Request → Result (List Kind) Refusal
intent_to_append mail stamp state request =
    if_logged_in state (append_intent (mail.exists request.name) stamp request)

-- The report of APPEND, given the replica before the command and after it.
abbrev pub report_of_append : MailState → MailState → List ℕ → CommandReport
report_of_append before after name = append_report (validity_in after name) (before.uidnext name)
