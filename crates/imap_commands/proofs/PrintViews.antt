use Rattle.std.proofs.Common.{subst, arith, ℕ, zero, suc, ◌+◌, ◌-◌, ◌≤◌, ◌<◌, inl, inr, Bool, true, false, List, [], ◌∷◌, ◌++◌, length, take, Option, Some, None, nat_lt, nat_eq, if◌then◌else◌}
use Rattle.std.specs.List.{slice_get}
use Rattle.std.proofs.lemmas.Bool.{cases_Bool}
use Rattle.imap_answers.specs.declared.answer.Answer.{Answer}
use Rattle.imap_answers.specs.declared.answer.Answer.TheVariants.{Exists, Expunge, Fetch}
use Rattle.imap_answers.specs.Printable.{Each, IsNonzero, IsSmall, IfPresent}
use Rattle.imap_types.specs.declared.flags.Flags.{Flags}
use Rattle.imap_types.specs.declared.sequence_set.SequenceRange.{SequenceRange}
use Rattle.imap_types.specs.Numbers.{greatest}
use Rattle.mailbox_rows.specs.ListedMessage.{ListedMessage}
use Rattle.mailbox_rows.specs.RowViews.{rows_after_uid, row_of}
use Rattle.session_view.specs.Replay.{after_answer, after_answers, after_silent, arrivals_up_to, with_fetched_flags, with_flags_at, view_after_reply, without_message}
use Rattle.session_view.specs.Sets.{numbers_from, numbers_in_set, set_names, top_of}
use Rattle.session_view.specs.Sets.{number_or_uid as set_name}
use Rattle.session_view.specs.Sync.{sync_answers, view_after_sync}
use Rattle.session_view.specs.Views.{entries_of, last_from, last_uid}
use Rattle.session_view.specs.declared.view_entry.ViewEntry.{ViewEntry}
use Rattle.session_view.specs.declared.reply_replay.SilentFlags.{SilentFlags}
use Rattle.session_view.specs.declared.view_entry.SyncKind.{SyncKind}
use Rattle.session_view.proofs.ReplayLemmas.{replay_rising}
use Rattle.session_view.proofs.SyncLemmas.{rising_count, syncs_replay}
use Rattle.imap_commands.specs.MessageNames.{name_at, names_of, uid_in}
use Rattle.imap_commands.specs.Printing.{AreShowable, IsNumbered, IsShowable}
use Rattle.imap_commands.proofs.PrintSelectLemmas.{each_append, each_filtered}

abbrev pub AreSmall : List ViewEntry → Type 0
AreSmall view = Each (λ (e : ViewEntry). IsSmall e.uid) view

-- ---- the number of messages in a view

pub last_small : (b : ℕ) (view : List ViewEntry) → IsSmall b → AreSmall view → IsSmall (last_from b view)
last_small b [] s h = s
last_small b (e ∷ es) s h = last_small e.uid es h.0 h.1

pub view_small : (view : List ViewEntry) → IsNumbered view → length view + 1 ≤ 4294967296
view_small view v =
    let n = rising_count 0 view v.rising in
    let l : last_from 0 view < 4294967296 = last_small 0 view (omega arith) v.small in
    omega (arith, n, l)

-- ---- numbers that a set names

numbers_by : (is_named : Bool) (n : ℕ) (rest : List ℕ) → IsNonzero n → Each IsNonzero rest → Each IsNonzero ((if is_named then n ∷ [] else []) ++ rest)
numbers_by true n rest k h = (k, h)
numbers_by false n rest k h = h

numbers_at : (by_uid : Bool) (top : ℕ) (set : List SequenceRange) (n : ℕ) (es : List ViewEntry) → 0 < n → n + length es ≤ 4294967296 → Each IsNonzero (numbers_from by_uid top set n es)
numbers_at by_uid top set n [] p l = tt
numbers_at by_uid top set n (e ∷ es) p l =
    numbers_by (set_names top set (set_name by_uid n e)) n (numbers_from by_uid top set (n + 1) es) (p, omega (arith, l)) (numbers_at by_uid top set (n + 1) es (omega (arith, p)) (omega (arith, l)))

-- message numbers are at least 1 and have 32 bits
pub numbers_nonzero : (by_uid : Bool) (set : List SequenceRange) (view : List ViewEntry) → IsNumbered view → Each IsNonzero (numbers_in_set by_uid set view)
numbers_nonzero by_uid set view v =
    let l = view_small view v in
    numbers_at by_uid (top_of by_uid view) set 1 view (omega arith) (omega (arith, l))

entry_small : (view : List ViewEntry) (k : ℕ) → AreSmall view → IsSmall (uid_in (slice_get view k))
entry_small [] zero h = omega arith
entry_small [] (suc k) h = omega arith
entry_small (e ∷ es) zero h = h.0
entry_small (e ∷ es) (suc k) h = entry_small es k h.1

name_small : (name_uid : Bool) (view : List ViewEntry) (n : ℕ) → AreSmall view → IsSmall n → IsSmall (name_at name_uid view n)
name_small true view n h s = elim (cases_Bool (nat_eq n 0)) [ inl t ↦ rw t (omega arith) | inr f ↦ rw f (entry_small view (n - 1) h) ]
name_small false view n h s = s

pub names_small : (name_uid : Bool) (view : List ViewEntry) (numbers : List ℕ) → AreSmall view → Each IsNonzero numbers → Each IsSmall (names_of name_uid view numbers)
names_small name_uid view [] h k = tt
names_small name_uid view (n ∷ numbers) h k = (name_small name_uid view n h k.0.1, names_small name_uid view numbers h k.1)

pub greatest_small : (numbers : List ℕ) → Each IsSmall numbers → IsSmall (greatest numbers)
greatest_small [] h = omega arith
greatest_small (n ∷ numbers) h = let g : greatest numbers < 4294967296 = greatest_small numbers h.1 in let k : n < 4294967296 = h.0 in omega (arith, g, k)

-- ---- the listing's row for a message

pub row_showable : (uid : ℕ) (rows : List ListedMessage) → Each IsShowable rows → IfPresent IsShowable (row_of uid rows)
row_showable uid [] h = tt
row_showable uid (row ∷ rows) h =
    elim (cases_Bool (nat_eq row.uid uid)) [
      | inl t ↦ rw t h.0
      | inr f ↦ rw f (row_showable uid rows h.1)
    ]

-- ---- a view after a replay

small_flagged : (view : List ViewEntry) (k : ℕ) (flags : Flags) → AreSmall view → AreSmall (with_flags_at view k flags)
small_flagged [] k flags h = tt
small_flagged (e ∷ es) k flags h =
    elim (cases_Bool (nat_eq k 1)) [
      | inl t ↦ rw t h
      | inr f ↦ rw f (h.0, small_flagged es (k - 1) flags h.1)
    ]

small_without : (view : List ViewEntry) (k : ℕ) → AreSmall view → AreSmall (without_message view k)
small_without [] k h = tt
small_without (e ∷ es) k h =
    elim (cases_Bool (nat_eq k 1)) [
      | inl t ↦ rw t h.1
      | inr f ↦ rw f (h.0, small_without es (k - 1) h.1)
    ]

small_taken : (n : ℕ) (rows : List ListedMessage) → Each IsShowable rows → AreSmall (entries_of (take n rows))
small_taken zero rows h = tt
small_taken (suc n) [] h = tt
small_taken (suc n) (row ∷ rows) h = (h.0.uid.1, small_taken n rows h.1)

small_fetched : (view : List ViewEntry) (k : ℕ) (flags : Option Flags) → AreSmall view → AreSmall (with_fetched_flags view k flags)
small_fetched view k None h = h
small_fetched view k (Some flags) h = small_flagged view k flags h

module _ (rows : List ListedMessage) (r : Each IsShowable rows) where
  small_answer : (view : List ViewEntry) (answer : Answer) → AreSmall view → AreSmall (after_answer rows view answer)
  small_answer view (Expunge k) h = small_without view k h
  small_answer view (Exists n) h =
      each_append (λ (e : ViewEntry). IsSmall e.uid) view (arrivals_up_to rows view n) h (small_taken (n - length view) (rows_after_uid (last_uid view) rows) (each_filtered IsShowable (λ (row : ListedMessage). nat_lt (last_uid view) row.uid) rows r))
  small_answer view (Fetch k items) h = small_fetched view k items.flags h
  small_answer view _ h = h

  pub small_answers : (view : List ViewEntry) (answers : List Answer) → AreSmall view → AreSmall (after_answers rows view answers)
  small_answers view [] h = h
  small_answers view (answer ∷ answers) h = small_answers (after_answer rows view answer) answers (small_answer view answer h)

small_silent : (view : List ViewEntry) (silents : List SilentFlags) → AreSmall view → AreSmall (after_silent view silents)
small_silent view [] h = h
small_silent view (s ∷ silents) h = small_silent (with_flags_at view s.number s.flags) silents (small_flagged view s.number s.flags h)

-- after any replay the UIDs ascend and have 32 bits
pub replay_numbered : (rows : List ListedMessage) (view : List ViewEntry) (silents : List SilentFlags) (answers : List Answer) → AreShowable rows → IsNumbered view → IsNumbered (view_after_reply rows view silents answers)
replay_numbered rows view silents answers r v = record {
  small = small_answers rows r.each (after_silent view silents) answers (small_silent view silents v.small);
  rising = replay_rising rows view silents answers r.rising v.rising;
}

pub sync_numbered : (kind : SyncKind) (modseq : Bool) (rows : List ListedMessage) (view : List ViewEntry) → AreShowable rows → IsNumbered view → IsNumbered (view_after_sync kind rows view)
sync_numbered kind modseq rows view r v = subst IsNumbered (syncs_replay kind modseq rows view) (replay_numbered rows view [] (sync_answers kind modseq rows view) r v)
