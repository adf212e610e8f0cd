use Rattle.std.proofs.Common.{◌≡◌, arith, ℕ, ◌-◌, Bool, true, not, List, [], ◌∷◌, length, map, nat_lt, Option}
use Rattle.imap_answers.specs.declared.codes.Code.{Code}
use Rattle.imap_answers.specs.Printable.{Each, IsCode, IsCopied, IsNonzero, IsPrintable, IsSmall, IfPresent}
use Rattle.imap_types.specs.Numbers.{AreRisingFrom}
use Rattle.imap_types.specs.declared.sequence_set.SequenceRange.{SequenceRange}
use Rattle.mailbox_rows.specs.ListedMessage.{ListedMessage}
use Rattle.mailbox_rows.specs.RowViews.{rows_after_uid}
use Rattle.session_view.specs.Sets.{numbers_in_set}
use Rattle.session_view.specs.declared.view_entry.ViewEntry.{ViewEntry}
use Rattle.imap_commands.specs.AppendCommand.{append_report}
use Rattle.imap_commands.specs.Arguments.{CopyTarget, OpenMailbox}
use Rattle.imap_commands.specs.CopyCommand.{copied_code, copies_in, copy_report, move_report, moved_answers, sources_of}
use Rattle.imap_commands.specs.MessageNames.{existing_messages}
use Rattle.imap_commands.specs.Printing.{HasAllCopies, AreShowable, IsNumbered, IsPrintableReport, IsShowable}
use Rattle.imap_commands.specs.Report.{gone_code, is_gone, message_at}
use Rattle.imap_commands.proofs.NamedLemmas.{rows_after_rising, names_rising}
use Rattle.imap_commands.proofs.PrintFetchLemmas.{gone_printable}
use Rattle.imap_commands.proofs.PrintSearchLemmas.{set_of}
use Rattle.imap_commands.proofs.PrintSelectLemmas.{each_filtered}
use Rattle.imap_commands.proofs.PrintViews.{names_small, numbers_nonzero}
use Rattle.imap_syntax.specs.declared.arguments.Transfer.{Transfer}

-- ---- UIDs of copies

-- UIDs that ascend and have 32 bits
record AreUids (uids : List ℕ) : Type 0 where
  rising : AreRisingFrom 1 uids
  small : Each IsSmall uids

copied_is : (uidvalidity source copy : ℕ) (sources copies : List ℕ) → IsNonzero uidvalidity → AreUids (source ∷ sources) → AreUids (copy ∷ copies) → length (source ∷ sources) ≡ length (copy ∷ copies) → IsCopied uidvalidity (source ∷ sources) (copy ∷ copies)
copied_is uidvalidity source copy sources copies u s c e = record { validity = u; sources = set_of source sources s.rising s.small; copied = set_of copy copies c.rising c.small; alike = e }

copied_printable : (uidvalidity : ℕ) (sources copies : List ℕ) (code : Option Code) → IsNonzero uidvalidity → AreUids sources → AreUids copies → length sources ≡ length copies → IfPresent IsCode code → IfPresent IsCode (copied_code uidvalidity sources copies code)
copied_printable uidvalidity [] copies code u s c e h = h
copied_printable uidvalidity (n ∷ sources) [] code u s c e h = absurd (omega (arith, e))
copied_printable uidvalidity (n ∷ sources) (m ∷ copies) code u s c e h = copied_is uidvalidity n m sources copies u s c e

moved_printable : (uidvalidity : ℕ) (sources copies : List ℕ) → IsNonzero uidvalidity → AreUids sources → AreUids copies → length sources ≡ length copies → Each IsPrintable (moved_answers uidvalidity sources copies)
moved_printable uidvalidity [] copies u s c e = tt
moved_printable uidvalidity (n ∷ sources) [] u s c e = absurd (omega (arith, e))
moved_printable uidvalidity (n ∷ sources) (m ∷ copies) u s c e = (copied_is uidvalidity n m sources copies u s c e, tt)

sources_uids : (before : List ListedMessage) (view : List ViewEntry) (by_uid : Bool) (set : List SequenceRange) → IsNumbered view → AreUids (sources_of before view (numbers_in_set by_uid set view))
sources_uids before view by_uid set v =
    let exists : ℕ → Bool = λ n. not (is_gone (message_at before view n)) in
    let numbers = numbers_in_set by_uid set view in
    record {
      rising = names_rising true by_uid set exists view v.rising;
      small = names_small true view (existing_messages before view numbers) v.small (each_filtered IsNonzero exists numbers (numbers_nonzero by_uid set view v));
    }

uids_small : (rows : List ListedMessage) → Each IsShowable rows → Each IsSmall (map (λ (row : ListedMessage). row.uid) rows)
uids_small [] h = tt
uids_small (row ∷ rows) h = (h.0.uid.1, uids_small rows h.1)

copies_uids : (uidnext : ℕ) (target_rows : List ListedMessage) → AreShowable target_rows → AreUids (copies_in uidnext target_rows)
copies_uids uidnext target_rows r = record {
  rising = rows_after_rising (uidnext - 1) 1 target_rows r.rising;
  small = uids_small (rows_after_uid (uidnext - 1) target_rows) (each_filtered IsShowable (λ (row : ListedMessage). nat_lt (uidnext - 1) row.uid) target_rows r.each);
}

-- ---- COPY, MOVE and APPEND

pub copy_printable : (mailbox : OpenMailbox) (request : Transfer) (target : CopyTarget) → IsNumbered mailbox.view → IsNonzero target.uidvalidity → AreShowable target.rows → HasAllCopies mailbox request target
    → IsPrintableReport (copy_report mailbox request target)
copy_printable mailbox request target v u r e =
    let numbers = numbers_in_set request.by_uid request.messages mailbox.view in
    record {
      own = tt;
      code =
          copied_printable target.uidvalidity (sources_of mailbox.rows mailbox.view numbers) (copies_in target.uidnext target.rows) (gone_code mailbox.rows mailbox.view numbers) u
          (sources_uids mailbox.rows mailbox.view request.by_uid request.messages v) (copies_uids target.uidnext target.rows r) e (gone_printable mailbox.rows mailbox.view numbers);
    }

pub move_printable : (mailbox : OpenMailbox) (request : Transfer) (target : CopyTarget) → IsNumbered mailbox.view → IsNonzero target.uidvalidity → AreShowable target.rows → HasAllCopies mailbox request target
    → IsPrintableReport (move_report mailbox request target)
move_printable mailbox request target v u r e =
    let numbers = numbers_in_set request.by_uid request.messages mailbox.view in
    record {
      own =
          moved_printable target.uidvalidity (sources_of mailbox.rows mailbox.view numbers) (copies_in target.uidnext target.rows) u (sources_uids mailbox.rows mailbox.view request.by_uid request.messages v)
          (copies_uids target.uidnext target.rows r) e;
      code = gone_printable mailbox.rows mailbox.view numbers;
    }

pub append_printable : (uidvalidity uid : ℕ) → IsNonzero uidvalidity → IsNonzero uid → IsPrintableReport (append_report uidvalidity uid)
append_printable uidvalidity uid v u = record { own = tt; code = (v, u) }
