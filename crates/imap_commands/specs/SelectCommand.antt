-- SELECT and EXAMINE (RFC 9051, sections 6.3.2 and 6.3.3; RFC 7162, section 3.1.2.1).

use Rattle.std.specs.Prelude.{◌≡◌, ◌↔◌, ℕ, Bool, true, false, List, [], ◌∷◌, ◌++◌, length, Option}
use Rattle.std.specs.Prelude.{Some, None, Result, Ok, Err, if◌then◌else◌}
use Rattle.crdt_ops.specs.declared.kind.Kind.{Kind}
use Rattle.imap_answers.specs.declared.answer.Answer.{Answer}
use Rattle.imap_answers.specs.declared.answer.Answer.TheVariants.{Exists, UntaggedOk}
use Rattle.imap_answers.specs.declared.answer.Answer.TheVariants.{Flags as FlagsAnswer}
use Rattle.imap_answers.specs.declared.answer.Answer.TheVariants.{List as ListAnswer}
use Rattle.imap_answers.specs.declared.codes.Code.{Code}
use Rattle.imap_answers.specs.declared.codes.Code.TheVariants.{ReadWrite, ReadOnly}
use Rattle.imap_answers.specs.declared.codes.Notice.TheVariants.{Closed, UidValidity, UidNext}
use Rattle.imap_answers.specs.declared.codes.Notice.TheVariants.{PermanentFlags, HighestModSeq}
use Rattle.imap_answers.specs.declared.mailbox.MailboxState.TheVariants.{Selectable}
use Rattle.imap_answers.specs.declared.fixed_words.CompletedWord.{CompletedWord}
use Rattle.imap_answers.specs.declared.fixed_words.Refusal.{Refusal}
use Rattle.imap_answers.specs.declared.fixed_words.Refusal.TheVariants.{NoSuchMailbox}
use Rattle.imap_query.specs.declared.mailbox_status.MailboxCounters.{MailboxCounters}
use Rattle.merge_laws.specs.Orders.{IsIn}
use Rattle.imap_types.specs.declared.flags.Flags.{Flags}
use Rattle.imap_types.specs.Keywords.{AreKeywords, to_lower_case}
use Rattle.mailbox_rows.specs.ListedMessage.{ListedMessage}
use Rattle.imap_commands.specs.Report.{CommandReport}
use Rattle.session_view.specs.ViewState.{ViewState}
use Rattle.imap_answers.specs.declared.fixed_words.CompletedWord.TheVariants as words
use Rattle.imap_commands.specs.CommandRules.{plain_rule}
use Rattle.imap_commands.specs.declared.command_rule.CommandRule.{CommandRule}
use Rattle.imap_commands.specs.MailStates.{MailState, counters_in, validity_in}
use Rattle.imap_commands.specs.SessionStates.{if_logged_in, is_selected}
use Rattle.imap_commands.specs.declared.session.State.{State}
use Rattle.imap_commands.specs.declared.session.State.TheVariants.{Selected}

-- The intent of SELECT and EXAMINE, which issue nothing, if the mailbox exists (RFC 9051,
-- sections 6.3.2 and 6.3.3).
abbrev pub select_intent : Bool → Result (List Kind) Refusal
select_intent exists = if exists then Ok [] else Err NoSuchMailbox

-- ---- the keywords of a listing

-- A message of the listing has a keyword with this spelling in lower case.
abbrev pub BearsKeyword : List ListedMessage → List ℕ → Type 0
BearsKeyword rows word =
    (row : ListedMessage)
    × IsIn row rows
    × ((keyword : List ℕ) × IsIn keyword row.flags.keywords × (to_lower_case keyword ≡ word))

-- The keywords of a listing: the set of the keywords of its messages (RFC 9051, section 2.3.2).
pub record AreListedKeywords (rows : List ListedMessage) (keywords : List (List ℕ)) : Type 0 where
  pub set : AreKeywords keywords
  pub exactly : (word : List ℕ) → IsIn word keywords ↔ BearsKeyword rows word

-- ---- the report

-- The flags in use in a mailbox whose messages have these keywords: the system flags and the
-- keywords (RFC 9051, section 7.3.5).
abbrev pub flags_in_use : List (List ℕ) → Flags
flags_in_use keywords =
    record {
      answered = true;
      flagged = true;
      deleted = true;
      seen = true;
      draft = true;
      keywords = keywords;
    }

-- The flags in use that the session can change permanently: none in a read-only mailbox (RFC 9051,
-- section 7.1, PERMANENTFLAGS).
abbrev pub permanent_flags : Bool → Flags → Option Flags
permanent_flags read_only flags = if read_only then None else Some flags

-- The answers about the selected mailbox, which has `count` messages and uses these flags
-- (RFC 9051, section 6.3.2; RFC 7162, section 3.1.2.1).
abbrev pub mailbox_answers : Bool → List ℕ → MailboxCounters → ℕ → Flags → List Answer
mailbox_answers read_only name counters count flags =
    FlagsAnswer flags ∷ Exists count ∷ ListAnswer name Selectable false
    ∷ UntaggedOk (UidValidity counters.uidvalidity) ∷ UntaggedOk (UidNext counters.uidnext)
    ∷ UntaggedOk (PermanentFlags (permanent_flags read_only flags))
    ∷ UntaggedOk (HighestModSeq counters.highest_modseq) ∷ []

-- The answer when another mailbox was selected before (RFC 9051, section 7.1, CLOSED).
abbrev pub closed_answers : Bool → List Answer
closed_answers was_selected = if was_selected then UntaggedOk Closed ∷ [] else []

-- The code that says whether the session may change the mailbox (RFC 9051, section 6.3.2).
abbrev pub access_code : Bool → Code
access_code read_only = if read_only then ReadOnly else ReadWrite

-- The report of SELECT and EXAMINE for a mailbox whose messages have these keywords.
abbrev pub select_report : Bool → Bool → List ℕ → MailboxCounters → List ListedMessage
    → List (List ℕ) → CommandReport
select_report was_selected read_only name counters rows keywords = record {
  own =
      closed_answers was_selected
      ++ mailbox_answers read_only name counters (length rows) (flags_in_use keywords);
  silent = [];
  code = Some (access_code read_only);
}

-- The report of SELECT and of EXAMINE, which selects read-only. It is unique, since a listing has
-- one set of keywords.
pub record IsSelectReport (was_selected read_only : Bool) (name : List ℕ)
    (counters : MailboxCounters)
    (rows : List ListedMessage) (report : CommandReport) : Type 0 where
  pub keywords : List (List ℕ)
  pub borne : AreListedKeywords rows keywords
  pub only : report ≡ select_report was_selected read_only name counters rows keywords

-- ---- the rules

-- The rule of SELECT and EXAMINE: the mailbox that was selected is left even if they are refused
-- (RFC 9051, section 6.3.2). No sync follows. CONDSTORE may turn mod-sequences on (RFC 7162,
-- section 3.1.8).
abbrev pub selecting_rule : CompletedWord → Bool → CommandRule
selecting_rule word condstore =
    record (plain_rule word) { sync = None; enables_condstore = condstore; selects = true }

abbrev pub select_rule : Bool → CommandRule
select_rule condstore = selecting_rule words.Select condstore

abbrev pub examine_rule : Bool → CommandRule
examine_rule condstore = selecting_rule words.Examine condstore

-- No sync follows UNSELECT (RFC 9051, section 6.4.2).
abbrev pub unselect_rule : CommandRule
unselect_rule = record (plain_rule words.Unselect) { sync = None }

-- ---- in a session

-- The intent of SELECT and EXAMINE in a session.
abbrev pub intent_to_select : MailState → State → List ℕ → Result (List Kind) Refusal
intent_to_select mail state name = if_logged_in state (select_intent (mail.exists name))

-- The report of SELECT and of EXAMINE, which selects read-only, in a session.
abbrev pub IsReportOfSelect : MailState → State → Bool → List ℕ → CommandReport → Type 0
IsReportOfSelect mail state read_only name report =
    IsSelectReport (is_selected state) read_only name (counters_in mail name) (mail.listing name)
    report

-- A newly selected mailbox, which shows no messages yet.
abbrev pub new_view : MailState → List ℕ → ViewState
new_view mail name =
    record { name = name; uidvalidity = validity_in mail name; entries = [] }

-- The state of a session that has just selected a mailbox.
abbrev pub selected_state : MailState → List ℕ → Bool → State
selected_state mail name read_only = Selected (new_view mail name) read_only
