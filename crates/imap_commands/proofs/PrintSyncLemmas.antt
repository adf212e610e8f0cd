use Rattle.std.proofs.Common.{refl, arith, ℕ, ◌+◌, ◌≤◌, ◌<◌, inl, inr, Bool, List, [], ◌∷◌, ◌++◌, length, Option, Some, None, nat_lt}
use Rattle.std.specs.Prelude.{max}
use Rattle.std.specs.List.{filter}
use Rattle.std.proofs.lemmas.Bool.{cases_Bool}
use Rattle.std.proofs.lemmas.Bool.Decides.{nat_tests}
use Rattle.imap_answers.specs.Printable.{Each, IsModSeq, IsNonzero, IsPrintable, IsSmall, IfPresent}
use Rattle.mailbox_rows.specs.ListedMessage.{ListedMessage}
use Rattle.mailbox_rows.specs.RowViews.{AreRisingRows, rows_after_uid, row_of}
use Rattle.session_view.specs.Sync.{exists_if_more, exists_of_sync, fetch_if_changed, fetches_of_sync, expunges, is_listed, expunge_if_gone, expunges_of_sync, staying_entries, sync_answers}
use Rattle.session_view.specs.Views.{AreRising, last_uid, same_flags}
use Rattle.session_view.specs.declared.view_entry.ViewEntry.{ViewEntry}
use Rattle.session_view.specs.declared.view_entry.SyncKind.{SyncKind}
use Rattle.session_view.specs.declared.view_entry.SyncKind.TheVariants.{Full, Partial}
use Rattle.session_view.proofs.SyncLemmas.{rising_count, rising_lower}
use Rattle.imap_commands.specs.Printing.{AreShowable, IsNumbered, IsShowable}
use Rattle.imap_commands.proofs.PrintFetchLemmas.{present_if_reported}
use Rattle.imap_commands.proofs.PrintSelectLemmas.{each_append, each_filtered}
use Rattle.imap_commands.proofs.PrintViews.{last_small, row_showable, view_small}

-- ---- expunged messages

loss_printable : (rows : List ListedMessage) (n : ℕ) (e : ViewEntry) → IsNonzero n → Each IsPrintable (expunge_if_gone rows n e)
loss_printable rows n e h = elim (cases_Bool (is_listed rows e)) [ inl t ↦ rw t tt | inr f ↦ rw f (h, tt) ]

expunges_printable : (rows : List ListedMessage) (n : ℕ) (view : List ViewEntry) → 0 < n → n + length view ≤ 4294967296 → Each IsPrintable (expunges rows n view)
expunges_printable rows n [] p l = tt
expunges_printable rows n (e ∷ es) p l =
    each_append IsPrintable (expunges rows (n + 1) es) (expunge_if_gone rows n e) (expunges_printable rows (n + 1) es (omega (arith, p)) (omega (arith, l))) (loss_printable rows n e (p, omega (arith, l)))

losses_printable : (kind : SyncKind) (rows : List ListedMessage) (view : List ViewEntry) → IsNumbered view → Each IsPrintable (expunges_of_sync kind rows view)
losses_printable Full rows view v = let l = view_small view v in expunges_printable rows 1 view (omega arith) (omega (arith, l))
losses_printable Partial rows view v = tt

-- ---- messages that stay

filter_rising : (test : ViewEntry → Bool) (low : ℕ) (view : List ViewEntry) → AreRising low view → AreRising low (filter test view)
filter_rising test low [] h = tt
filter_rising test low (e ∷ es) h =
    let k : low ≤ e.uid = h.0 in
    elim (cases_Bool (test e)) [
      | inl t ↦ rw t (k, filter_rising test (e.uid + 1) es h.1)
      | inr f ↦ rw f (rising_lower low (e.uid + 1) (filter test es) (omega (arith, k)) (filter_rising test (e.uid + 1) es h.1))
    ]

stays_numbered : (kind : SyncKind) (rows : List ListedMessage) (view : List ViewEntry) → IsNumbered view → IsNumbered (staying_entries kind rows view)
stays_numbered Full rows view v = record { small = each_filtered (λ (e : ViewEntry). IsSmall e.uid) (is_listed rows) view v.small; rising = filter_rising (is_listed rows) 1 view v.rising }
stays_numbered Partial rows view v = v

-- ---- new messages

-- the number of UIDs above this one, or from a number on, has 32 bits
beyond_count : (uid k low : ℕ) (rows : List ListedMessage) → AreRisingRows low rows → Each IsShowable rows → k ≤ 4294967296 → k ≤ max low (uid + 1) → k + length (rows_after_uid uid rows) ≤ 4294967296
beyond_count uid k low [] r h l m = omega (arith, l)
beyond_count uid k low (row ∷ rows) r h l m =
    let first : low ≤ row.uid = r.0 in
    let u : row.uid < 4294967296 = h.0.uid.1 in
    elim (cases_Bool (nat_lt uid row.uid)) [
      | inl t ↦
          let above : uid + 1 ≤ row.uid = grind (arith, nat_tests) in
          let more = beyond_count uid (k + 1) (row.uid + 1) rows r.1 h.1 (omega (arith, u, above, first, m)) (omega (arith, above, first, m)) in
          rw t (omega (arith, more))
      | inr f ↦ rw f (beyond_count uid k (row.uid + 1) rows r.1 h.1 l (omega (arith, first, m)))
    ]

announced_printable : (before now : ℕ) → IsSmall now → Each IsPrintable (exists_if_more before now)
announced_printable before now h = elim (cases_Bool (nat_lt before now)) [ inl t ↦ rw t (h, tt) | inr f ↦ rw f tt ]

arrivals_printable : (rows : List ListedMessage) (view : List ViewEntry) → AreShowable rows → IsNumbered view → Each IsPrintable (exists_of_sync rows view)
arrivals_printable rows view r v =
    let l : last_uid view < 4294967296 = last_small 0 view (omega arith) v.small in
    let n : length view ≤ last_uid view = let c = rising_count 0 view v.rising in omega (arith, c) in
    let b = beyond_count (last_uid view) (last_uid view + 1) 1 rows r.rising r.each (omega (arith, l)) (omega arith) in
    announced_printable (length view) (length view + length (rows_after_uid (last_uid view) rows)) (omega (arith, n, b))

-- ---- messages that changed

change_printable : (modseq : Bool) (n : ℕ) (e : ViewEntry) (row : Option ListedMessage) → IsNonzero n → IfPresent IsShowable row → Each IsPrintable (fetch_if_changed modseq n e row)
change_printable modseq n e None h r = tt
change_printable modseq n e (Some row) h r =
    elim (cases_Bool (same_flags e.flags row.flags)) [
      | inl t ↦ rw t tt
      | inr f ↦ rw f ((h, record { some = refl; uid = r.uid; flags = r.flags; date = tt; size = tt; modseq = present_if_reported IsModSeq modseq row.modseq r.modseq; sections = tt }), tt)
    ]

changes_printable : (modseq : Bool) (rows : List ListedMessage) (n : ℕ) (view : List ViewEntry) → AreShowable rows → 0 < n → n + length view ≤ 4294967296 → Each IsPrintable (fetches_of_sync modseq rows n view)
changes_printable modseq rows n [] r p l = tt
changes_printable modseq rows n (e ∷ es) r p l =
    each_append IsPrintable (fetch_if_changed modseq n e (row_of e.uid rows)) (fetches_of_sync modseq rows (n + 1) es) (change_printable modseq n e (row_of e.uid rows) (p, omega (arith, l)) (row_showable e.uid rows r.each))
    (changes_printable modseq rows (n + 1) es r (omega (arith, p)) (omega (arith, l)))

pub sync_printable : (kind : SyncKind) (modseq : Bool) (rows : List ListedMessage) (view : List ViewEntry) → AreShowable rows → IsNumbered view → Each IsPrintable (sync_answers kind modseq rows view)
sync_printable kind modseq rows view r v =
    let stay = staying_entries kind rows view in
    let s = stays_numbered kind rows view v in
    let l = view_small stay s in
    each_append IsPrintable (expunges_of_sync kind rows view) (exists_of_sync rows stay ++ fetches_of_sync modseq rows 1 stay) (losses_printable kind rows view v)
    (each_append IsPrintable (exists_of_sync rows stay) (fetches_of_sync modseq rows 1 stay) (arrivals_printable rows stay r s) (changes_printable modseq rows 1 stay r (omega arith) (omega (arith, l))))
