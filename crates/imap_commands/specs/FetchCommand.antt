-- FETCH (RFC 9051, section 6.4.5; RFC 7162, section 3.1.4).

use Rattle.std.specs.Prelude.{ℕ, Bool, true, false, not, ◌&&◌, List, [], ◌∷◌, flat_map, Option}
use Rattle.std.specs.Prelude.{Some, None, Result, Err, if◌then◌else◌}
use Rattle.crdt_ops.specs.declared.kind.Kind.{Kind}
use Rattle.crdt_ops.specs.declared.kind.Kind.TheVariants.{Store}
use Rattle.imap_answers.specs.declared.fixed_words.Refusal.{Refusal}
use Rattle.imap_answers.specs.declared.fixed_words.Refusal.TheVariants.{NoSuchMessage}
use Rattle.imap_syntax.specs.declared.fetch.FetchItem.{FetchItem}
use Rattle.imap_query.specs.FetchCommand.{fetch_answers, is_above_changed_since, is_seen_set}
use Rattle.imap_query.specs.declared.fetch_command.FetchMode.{FetchMode}
use Rattle.imap_query.specs.declared.viewed_message.ViewedMessage.{ViewedMessage}
use Rattle.imap_types.specs.declared.flags.Flags.{Flags}
use Rattle.mailbox_rows.specs.ListedMessage.{ListedMessage}
use Rattle.session_view.specs.Sets.{is_in_range, numbers_in_set}
use Rattle.session_view.specs.declared.view_entry.ViewEntry.{ViewEntry}
use Rattle.imap_commands.specs.Arguments.{OpenMailbox}
use Rattle.imap_commands.specs.Limits.{within_limits}
use Rattle.imap_commands.specs.Report.{CommandReport, entry_at, gone_code, message_at}
use Rattle.imap_answers.specs.declared.fixed_words.CompletedWord.TheVariants as words
use Rattle.imap_syntax.specs.declared.arguments.Fetch.{Fetch}
use Rattle.imap_commands.specs.EnableCommand.{fetch_asks_modseq}
use Rattle.imap_commands.specs.CommandRules.{issuing_rule, sync_kind_by}
use Rattle.imap_commands.specs.declared.command_rule.CommandRule.{CommandRule}
use Rattle.imap_commands.specs.MailStates.{MailState, open_mailbox, rows_in}
use Rattle.imap_commands.specs.SessionStates.{if_selected, report_if_selected}
use Rattle.imap_commands.specs.declared.session.State.{State}

-- The mode of a FETCH, with CONDSTORE on or off.
abbrev pub mode_of : OpenMailbox → Bool → Fetch → FetchMode
mode_of mailbox condstore request =
    record {
      by_uid = request.by_uid;
      condstore = condstore;
      writable = not mailbox.read_only;
      changed_since = request.changed_since;
    }

-- Flags with `\Seen`.
abbrev pub seen_flags : Flags → Flags
seen_flags flags = record flags { seen = true }

-- The Store of `\Seen` for a message, which replaces all its versions. There is one if the mailbox
-- is read-write, an item sets the flag, CHANGEDSINCE doesn't exclude the message and none of its
-- versions has the flag.
abbrev pub seen_store : List ℕ → List FetchItem → FetchMode → Option ListedMessage → List Kind
seen_store folder items mode None = []
seen_store folder items mode (Some row) =
    if is_above_changed_since mode.changed_since row && is_seen_set items mode row
    then Store folder (seen_flags row.flags) row.versions row.origin ∷ []
    else []

-- The Stores of `\Seen` for the messages with these numbers.
abbrev pub seen_stores : OpenMailbox → Fetch → List ℕ → List Kind
seen_stores mailbox request numbers =
    flat_map
    (λ n. seen_store mailbox.name request.items (mode_of mailbox false request)
    (message_at mailbox.rows mailbox.view n)) numbers

-- The intent of FETCH, or the first reason for refusing it (RFC 9051, section 6.4.5; RFC 7162,
-- section 3.1.4).
abbrev pub fetch_intent : OpenMailbox → Fetch → Result (List Kind) Refusal
fetch_intent mailbox request =
    if not (is_in_range request.by_uid request.messages mailbox.view) then Err NoSuchMessage
    else within_limits
    (seen_stores mailbox request (numbers_in_set request.by_uid request.messages mailbox.view))

-- A message of a view, in the form that queries take.
abbrev pub viewed_message_at : ℕ → Option ViewEntry → List ViewedMessage
viewed_message_at n None = []
viewed_message_at n (Some e) = record { number = n; uid = e.uid } ∷ []

-- The view's messages with these numbers, in the form that queries take.
abbrev pub viewed_messages_at : List ViewEntry → List ℕ → List ViewedMessage
viewed_messages_at view numbers = flat_map (λ n. viewed_message_at n (entry_at view n)) numbers

-- The report of FETCH, from the mailbox before it, the listing after it and whether CONDSTORE is
-- on.
abbrev pub fetch_report : OpenMailbox → List ListedMessage → Bool → Fetch → CommandReport
fetch_report mailbox after condstore request =
    let numbers = numbers_in_set request.by_uid request.messages mailbox.view in
    record {
      own =
          fetch_answers request.items (mode_of mailbox condstore request) mailbox.rows after
          (viewed_messages_at mailbox.view numbers);
      silent = [];
      code = gone_code mailbox.rows mailbox.view numbers;
    }

-- The rule of FETCH, which may store `\Seen`: MODSEQ and CHANGEDSINCE turn mod-sequences on
-- (RFC 7162, section 3.1).
abbrev pub fetch_rule : Fetch → CommandRule
fetch_rule request =
    record (issuing_rule (if request.by_uid then words.UidFetch else words.Fetch)) {
      sync = Some (sync_kind_by request.by_uid);
      enables_condstore = fetch_asks_modseq request.items request.changed_since;
    }

-- ---- in a session

-- The intent of FETCH in a session.
abbrev pub intent_to_fetch : MailState → State → Fetch → Result (List Kind) Refusal
intent_to_fetch mail state request =
    if_selected state (λ view read_only. fetch_intent (open_mailbox mail view read_only) request)

-- The report of FETCH in a session, given the replica before the command and after it.
abbrev pub report_of_fetch : MailState → MailState → State → Bool → Fetch → CommandReport
report_of_fetch before after state modseq request =
    report_if_selected state (λ view read_only. fetch_report (open_mailbox before view read_only)
    (rows_in after view) modseq request)
