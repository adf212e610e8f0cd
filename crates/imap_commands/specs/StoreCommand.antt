-- STORE (RFC 9051, section 6.4.6; RFC 7162, section 3.1.3).

use Rattle.std.specs.Prelude.{ℕ, nat_le, Bool, true, false, not, ◌&&◌, ◌||◌, is_some, List, [], ◌∷◌}
use Rattle.std.specs.Prelude.{flat_map, Option, Some, None, Result, Err, if◌then◌else◌}
use Rattle.std.specs.List.{filter, list_all}
use Rattle.crdt_ops.specs.declared.kind.Kind.{Kind}
use Rattle.crdt_ops.specs.declared.kind.Kind.TheVariants.{Store}
use Rattle.imap_answers.specs.declared.answer.Answer.{Answer}
use Rattle.imap_answers.specs.declared.answer.Answer.TheVariants.{Fetch}
use Rattle.imap_answers.specs.declared.codes.Code.{Code}
use Rattle.imap_answers.specs.declared.codes.Code.TheVariants.{Modified}
use Rattle.imap_answers.specs.declared.fixed_words.Refusal.{Refusal}
use Rattle.imap_answers.specs.declared.fixed_words.Refusal.TheVariants.{KeywordTooLong}
use Rattle.imap_answers.specs.declared.fixed_words.Refusal.TheVariants.{NoSuchMessage, ReadOnly}
use Rattle.imap_syntax.specs.declared.store.StoreMode.{StoreMode}
use Rattle.imap_query.specs.FetchCommand.{if_reported}
use Rattle.imap_types.specs.Keywords.{is_lawful_keyword}
use Rattle.imap_types.specs.declared.flags.Flags.{Flags}
use Rattle.mailbox_rows.specs.ListedMessage.{ListedMessage}
use Rattle.session_view.specs.Sets.{is_in_range, numbers_in_set}
use Rattle.session_view.specs.Views.{same_flags}
use Rattle.session_view.specs.declared.view_entry.ViewEntry.{ViewEntry}
use Rattle.session_view.specs.declared.reply_replay.SilentFlags.{SilentFlags}
use Rattle.imap_commands.specs.Arguments.{OpenMailbox}
use Rattle.imap_commands.specs.FlagChange.{changed_flags}
use Rattle.imap_commands.specs.Limits.{within_limits}
use Rattle.imap_commands.specs.MessageNames.{names_of}
use Rattle.imap_commands.specs.Report.{CommandReport, entry_at, gone_code, message_at}
use Rattle.imap_answers.specs.declared.fixed_words.CompletedWord.TheVariants as words
use Rattle.imap_syntax.specs.declared.arguments.Store.{Store as Request}
use Rattle.imap_commands.specs.CommandRules.{issuing_rule, sync_kind_by}
use Rattle.imap_commands.specs.declared.command_rule.CommandRule.{CommandRule}
use Rattle.imap_commands.specs.MailStates.{MailState, open_mailbox, rows_in}
use Rattle.imap_commands.specs.SessionStates.{if_selected, report_if_selected}
use Rattle.imap_commands.specs.declared.session.State.{State}

-- Whether a keyword is one that no message may bear: it is too long, or has octets that no command
-- spells.
abbrev pub has_unlawful_keyword : Flags → Bool
has_unlawful_keyword flags = not (list_all is_lawful_keyword flags.keywords)

-- Whether a message hasn't changed since the mod-sequence of UNCHANGEDSINCE, if one is given
-- (RFC 7162, section 3.1.3).
abbrev pub is_unchanged : Option ℕ → ListedMessage → Bool
is_unchanged None row = true
is_unchanged (Some modseq) row = nat_le row.modseq modseq

-- Whether STORE may change a message: the listing has it, and it hasn't changed.
abbrev pub is_taken : Option ℕ → Option ListedMessage → Bool
is_taken since None = false
is_taken since (Some row) = is_unchanged since row

-- Whether STORE refuses a message: the listing has it, but it has changed.
abbrev pub is_refused : Option ℕ → Option ListedMessage → Bool
is_refused since None = false
is_refused since (Some row) = not (is_unchanged since row)

-- The numbers of the messages that STORE may change, by the listing before it.
abbrev pub taken_messages : List ListedMessage → List ViewEntry → Option ℕ → List ℕ → List ℕ
taken_messages before view since numbers =
    filter (λ n. is_taken since (message_at before view n)) numbers

-- The numbers of the messages that STORE refuses, by the listing before it.
abbrev pub refused_messages : List ListedMessage → List ViewEntry → Option ℕ → List ℕ → List ℕ
refused_messages before view since numbers =
    filter (λ n. is_refused since (message_at before view n)) numbers

-- The Store of a message, if its flags change: one version with the new flags in place of all its
-- versions.
abbrev pub store_of : List ℕ → StoreMode → Flags → Option ListedMessage → List Kind
store_of folder mode given None = []
store_of folder mode given (Some row) =
    if same_flags (changed_flags mode row.flags given) row.flags then []
    else Store folder (changed_flags mode row.flags given) row.versions row.origin ∷ []

-- The Stores of the messages with these numbers.
abbrev pub stores_of : OpenMailbox → Request → List ℕ → List Kind
stores_of mailbox request numbers =
    flat_map
    (λ n. store_of mailbox.name request.action.mode request.flags
    (message_at mailbox.rows mailbox.view n)) numbers

-- The intent of STORE, or the first reason for refusing it (RFC 9051, section 6.4.6; RFC 7162,
-- section 3.1.3).
abbrev pub store_intent : OpenMailbox → Request → Result (List Kind) Refusal
store_intent mailbox request =
    if not (is_in_range request.by_uid request.messages mailbox.view) then Err NoSuchMessage
    else (if mailbox.read_only then Err ReadOnly
    else (if has_unlawful_keyword request.flags then Err KeywordTooLong
    else within_limits (stores_of mailbox request (taken_messages mailbox.rows mailbox.view
    request.unchanged_since (numbers_in_set request.by_uid request.messages mailbox.view)))))

-- The FETCH of a message as it is after the command: with its flags unless STORE is silent, and
-- with its mod-sequence if UNCHANGEDSINCE is given or CONDSTORE is on.
abbrev pub stored_answer : Bool → Request → ℕ → Option ListedMessage → List Answer
stored_answer condstore request n None = []
stored_answer condstore request n (Some row) =
    Fetch n (record {
      uid = if_reported request.by_uid row.uid;
      flags = if_reported (not request.action.silent) row.flags;
      date = None;
      size = None;
      modseq = if_reported (is_some request.unchanged_since || condstore) row.modseq;
      sections = [];
    }) ∷ []

-- The answers of STORE for the messages that it may change; none if it is silent and has no
-- UNCHANGEDSINCE.
abbrev pub stored_answers : List ListedMessage → List ViewEntry → Bool → Request → List ℕ
    → List Answer
stored_answers after view condstore request taken =
    if request.action.silent && not (is_some request.unchanged_since) then []
    else flat_map (λ n. stored_answer condstore request n (message_at after view n)) taken

-- The view's flags of a message, changed as STORE asks.
abbrev pub silent_flags_at : StoreMode → Flags → ℕ → Option ViewEntry → List SilentFlags
silent_flags_at mode given n None = []
silent_flags_at mode given n (Some e) =
    record { number = n; flags = changed_flags mode e.flags given } ∷ []

-- The flags that the session sets itself if STORE is silent.
abbrev pub silent_flags_of : List ViewEntry → Request → List ℕ → List SilentFlags
silent_flags_of view request taken =
    if request.action.silent
    then flat_map (λ n. silent_flags_at request.action.mode request.flags n (entry_at view n)) taken
    else []

-- The code of a STORE: MODIFIED with the refused messages, or `code` if there are none.
abbrev pub modified_code : List ℕ → Option Code → Option Code
modified_code [] code = code
modified_code (n ∷ refused) code = Some (Modified (n ∷ refused))

-- The report of STORE, from the mailbox before it, the listing after it and whether CONDSTORE is on
-- (RFC 9051, section 6.4.6; RFC 7162, section 3.1.3).
abbrev pub store_report : OpenMailbox → List ListedMessage → Bool → Request → CommandReport
store_report mailbox after condstore request =
    let numbers = numbers_in_set request.by_uid request.messages mailbox.view in
    let taken = taken_messages mailbox.rows mailbox.view request.unchanged_since numbers in
    let refused = refused_messages mailbox.rows mailbox.view request.unchanged_since numbers in
    record {
      own = stored_answers after mailbox.view condstore request taken;
      silent = silent_flags_of mailbox.view request taken;
      code =
          modified_code (names_of request.by_uid mailbox.view refused)
          (gone_code mailbox.rows mailbox.view numbers);
    }

-- The rule of STORE: UNCHANGEDSINCE turns mod-sequences on (RFC 7162, section 3.1).
abbrev pub store_rule : Request → CommandRule
store_rule request =
    record (issuing_rule (if request.by_uid then words.UidStore else words.Store)) {
      sync = Some (sync_kind_by request.by_uid);
      enables_condstore = is_some request.unchanged_since;
    }

-- ---- in a session

-- The intent of STORE in a session.
abbrev pub intent_to_store : MailState → State → Request → Result (List Kind) Refusal
intent_to_store mail state request =
    if_selected state (λ view read_only. store_intent (open_mailbox mail view read_only) request)

-- The report of STORE in a session, given the replica before the command and after it.
abbrev pub report_of_store : MailState → MailState → State → Bool → Request → CommandReport
report_of_store before after state modseq request =
    report_if_selected state (λ view read_only. store_report (open_mailbox before view read_only)
    (rows_in after view) modseq request)
