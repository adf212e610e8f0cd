use Rattle.std.proofs.Common.{◌≡◌, refl, sym, arith, ℕ, inl, inr, Bool, true, false, not, ◌&&◌, ◌||◌, List, [], ◌∷◌, Option, Some, None, flat_map}
use Rattle.std.specs.Prelude.{is_some}
use Rattle.std.proofs.lemmas.Bool.{cases_Bool, false≢true}
use Rattle.imap_answers.specs.declared.codes.Code.{Code}
use Rattle.imap_answers.specs.declared.fetch_items.FetchItems.{FetchItems}
use Rattle.imap_answers.specs.Printable.{AreFetchItems, AreFlags, Each, IsCode, IsModSeq, IsNonzero, IsPrintable, IsSmall, IfPresent}
use Rattle.imap_query.specs.FetchCommand.{if_reported}
use Rattle.imap_types.specs.Numbers.{AreRisingFrom}
use Rattle.imap_types.specs.declared.sequence_set.SequenceRange.{SequenceRange}
use Rattle.mailbox_rows.specs.ListedMessage.{ListedMessage}
use Rattle.session_view.specs.Sets.{numbers_in_set}
use Rattle.session_view.specs.declared.view_entry.ViewEntry.{ViewEntry}
use Rattle.imap_commands.specs.Arguments.{OpenMailbox}
use Rattle.imap_commands.specs.ExpungeCommand.{uid_expunge_report}
use Rattle.imap_commands.specs.MessageNames.{names_of}
use Rattle.imap_commands.specs.Printing.{AreShowable, IsNumbered, IsPrintableReport, IsShowable}
use Rattle.imap_commands.specs.StoreCommand.{is_refused, is_taken, modified_code, store_report, stored_answer, stored_answers, refused_messages, taken_messages}
use Rattle.imap_commands.specs.Report.{entry_at, gone_code, message_at, row_for}
use Rattle.imap_commands.proofs.NamedLemmas.{names_rising}
use Rattle.imap_commands.proofs.PrintFetchLemmas.{HasSomeItem, each_flat, gone_printable, has_some_item, present_if_reported}
use Rattle.imap_commands.proofs.PrintSelectLemmas.{each_filtered}
use Rattle.imap_commands.proofs.PrintViews.{greatest_small, names_small, numbers_nonzero, row_showable}
use Rattle.imap_syntax.specs.declared.arguments.Store.{Store}

-- ---- the messages that STORE may change

pub message_showable : (rows : List ListedMessage) (e : Option ViewEntry) → Each IsShowable rows → IfPresent IsShowable (row_for rows e)
message_showable rows None h = tt
message_showable rows (Some e) h = row_showable e.uid rows h

-- the answer for one of them
abbrev stored_items : Bool → Bool → Bool → ListedMessage → FetchItems
stored_items by_uid with_flags with_modseq row =
    record { uid = if_reported by_uid row.uid; flags = if_reported with_flags row.flags; date = None; size = None; modseq = if_reported with_modseq row.modseq; sections = [] }

-- there is at least one item: flags or the mod-sequence
stored_some : (by_uid with_flags with_modseq : Bool) (row : ListedMessage) → (with_flags || with_modseq) ≡ true → HasSomeItem (stored_items by_uid with_flags with_modseq row)
stored_some by_uid true with_modseq row e = inr (inl refl)
stored_some by_uid false true row e = inr (inr (inr (inr (inl refl))))
stored_some by_uid false false row e = absurd (false≢true e)

stored_one : (condstore : Bool) (request : Store) (n : ℕ) (row : Option ListedMessage) → (not request.action.silent || (is_some request.unchanged_since || condstore)) ≡ true → IsNonzero n → IfPresent IsShowable row
    → Each IsPrintable (stored_answer condstore request n row)
stored_one condstore request n None e k h = tt
stored_one condstore request n (Some row) e k h =
    let by_uid = request.by_uid in
    let with_flags = not request.action.silent in
    let with_modseq = is_some request.unchanged_since || condstore in
    let items : AreFetchItems (stored_items by_uid with_flags with_modseq row) = record {
      some = has_some_item (stored_items by_uid with_flags with_modseq row) (stored_some by_uid with_flags with_modseq row e);
      uid = present_if_reported IsNonzero by_uid row.uid h.uid;
      flags = present_if_reported AreFlags with_flags row.flags h.flags;
      date = tt;
      size = tt;
      modseq = present_if_reported IsModSeq with_modseq row.modseq h.modseq;
      sections = tt;
    } in
    ((k, items), tt)

stored_each : (after : List ListedMessage) (view : List ViewEntry) (condstore : Bool) (request : Store) (taken : List ℕ) → (not request.action.silent || (is_some request.unchanged_since || condstore)) ≡ true → AreShowable after
    → Each IsNonzero taken → Each IsPrintable (flat_map (λ n. stored_answer condstore request n (message_at after view n)) taken)
stored_each after view condstore request taken e r k =
    each_flat IsNonzero IsPrintable (λ n. stored_answer condstore request n (message_at after view n)) taken
    (λ n h. stored_one condstore request n (message_at after view n) e h (message_showable after (entry_at view n) r.each)) k

-- if STORE gives answers, each has flags or a mod-sequence
reports_each : (silent given condstore : Bool) → (silent && not given) ≡ false → (not silent || (given || condstore)) ≡ true
reports_each false given condstore e = refl
reports_each true true condstore e = refl
reports_each true false condstore e = absurd (false≢true (sym e))

stored_printable : (after : List ListedMessage) (view : List ViewEntry) (condstore : Bool) (request : Store) (taken : List ℕ) → AreShowable after → Each IsNonzero taken → Each IsPrintable (stored_answers after view condstore request taken)
stored_printable after view condstore request taken r k =
    elim (cases_Bool (request.action.silent && not (is_some request.unchanged_since))) [
      | inl t ↦ rw t tt
      | inr f ↦ rw f (stored_each after view condstore request taken (reports_each request.action.silent (is_some request.unchanged_since) condstore f) r k)
    ]

-- ---- the messages that STORE refuses

modified_printable : (refused : List ℕ) (code : Option Code) → AreRisingFrom 1 refused → Each IsSmall refused → IfPresent IsCode code → IfPresent IsCode (modified_code refused code)
modified_printable [] code r s h = h
modified_printable (n ∷ refused) code r s h = record { filled = omega arith; rising = r; small = greatest_small (n ∷ refused) s }

pub store_printable : (mailbox : OpenMailbox) (after : List ListedMessage) (condstore : Bool) (request : Store) → AreShowable after → IsNumbered mailbox.view → IsPrintableReport (store_report mailbox after condstore request)
store_printable mailbox after condstore request r v =
    let before = mailbox.rows in
    let view = mailbox.view in
    let by_uid = request.by_uid in
    let set = request.messages in
    let since = request.unchanged_since in
    let numbers = numbers_in_set by_uid set view in
    let named = numbers_nonzero by_uid set view v in
    let taken : ℕ → Bool = λ n. is_taken since (message_at before view n) in
    let refused : ℕ → Bool = λ n. is_refused since (message_at before view n) in
    record {
      own = stored_printable after view condstore request (taken_messages before view since numbers) r (each_filtered IsNonzero taken numbers named);
      code =
          modified_printable (names_of by_uid view (refused_messages before view since numbers)) (gone_code before view numbers) (names_rising by_uid by_uid set refused view v.rising)
          (names_small by_uid view (refused_messages before view since numbers) v.small (each_filtered IsNonzero refused numbers named)) (gone_printable before view numbers);
    }

-- ---- UID EXPUNGE

pub uid_expunge_printable : (mailbox : OpenMailbox) (uids : List SequenceRange) → IsPrintableReport (uid_expunge_report mailbox uids)
uid_expunge_printable mailbox uids = record { own = tt; code = gone_printable mailbox.rows mailbox.view (numbers_in_set true uids mailbox.view) }
