-- The first messages that a view shows of a mailbox are a prefix of its listing, and the whole
-- listing if there are as many of them.
use Rattle.std.specs.List.{list_any}
use Rattle.std.proofs.Common.{◌≡◌, inr, inl, ℕ, zero, suc, ◌+◌, ◌-◌, ◌<◌, ◌≤◌, Bool, true, false, ◌||◌, List, [], ◌∷◌, ◌++◌, length, take, drop, Some, refl, sym, ap, ◌∙◌, subst, arith}
use Rattle.std.specs.Prelude.{nat_lt}
use Rattle.std.proofs.Math.Seq.{take-nil}
use Rattle.std.proofs.lemmas.Bool.{false≢true}
use Rattle.std.proofs.lemmas.Bool.Decides.{nat_tests}
use Rattle.crdt_ops.specs.declared.op.Op.{Op}
use Rattle.idle_feed.specs.Feeds.{Pending}
use Rattle.imap_answers.specs.declared.answer.Answer.{Answer}
use Rattle.imap_answers.specs.declared.answer.Answer.TheVariants.{Exists, Expunge, Fetch}
use Rattle.imap_commands.specs.declared.session.State.{State}
use Rattle.imap_commands.specs.declared.session.State.TheVariants.{Selected}
use Rattle.imap_node.specs.InputEffects.{SyncInput, IsFirstSight, is_altering, entries_after_sync}
use Rattle.imap_node.specs.SessionFeeds.{IsNotedFor}
use Rattle.imap_node.specs.SessionChanges.{ShowsAll}
use Rattle.imap_node.specs.Mailboxes.{rows_for}
use Rattle.imap_node.specs.Replays.{view_of}
use Rattle.mailbox_rows.specs.ListedMessage.{ListedMessage}
use Rattle.mailbox_rows.specs.RowViews.{AreRisingRows, rows_after_uid}
use Rattle.session_view.specs.NoteChanges.{flags_at}
use Rattle.session_view.specs.Replay.{after_answer, after_answers, view_after_reply}
use Rattle.session_view.specs.ViewState.{ViewState}
use Rattle.session_view.specs.Views.{entries_of, entry_of, last_from}
use Rattle.session_view.specs.declared.view_entry.ViewEntry.{ViewEntry}
use Rattle.uid_projection.specs.declared.first_numbers.Counters.{Counters}
use Rattle.imap_node.proofs.SessionChangeLemmas.{same_view}

-- ---- prefixes of a listing

all_beyond : (uid low : ℕ) (rows : List ListedMessage) → uid < low → AreRisingRows low rows → rows_after_uid uid rows ≡ rows
all_beyond uid low [] l h = refl
all_beyond uid low (row ∷ rows) l h =
    let k : low ≤ row.uid = h.0 in
    let t : nat_lt uid row.uid ≡ true = grind (arith, nat_tests) in
    rw t (ap (λ (rs : List ListedMessage). row ∷ rs) (all_beyond uid (row.uid + 1) rows (omega (arith, l, k)) h.1))

last_from_low : (low n : ℕ) (rows : List ListedMessage) → AreRisingRows (low + 1) rows → low ≤ last_from low (entries_of (take n rows))
last_from_low low zero rows h = omega arith
last_from_low low (suc n) [] h = omega arith
last_from_low low (suc n) (row ∷ rows) h =
    let k : low + 1 ≤ row.uid = h.0 in
    let l : row.uid ≤ last_from row.uid (entries_of (take n rows)) = last_from_low row.uid n rows h.1 in
    omega (arith, k, l)

beyond_front : (low n : ℕ) (rows : List ListedMessage) → AreRisingRows (low + 1) rows → rows_after_uid (last_from low (entries_of (take n rows))) rows ≡ drop n rows
beyond_front low zero rows h = all_beyond low (low + 1) rows (omega arith) h
beyond_front low (suc n) [] h = refl
beyond_front low (suc n) (row ∷ rows) h =
    let last = last_from row.uid (entries_of (take n rows)) in
    let l : row.uid ≤ last = last_from_low row.uid n rows h.1 in
    let f : nat_lt last row.uid ≡ false = grind (arith, nat_tests) in
    rw f (beyond_front row.uid n rows h.1)

entries_of_take_plus : (rows : List ListedMessage) (n m : ℕ) → entries_of (take n rows) ++ entries_of (take m (drop n rows)) ≡ entries_of (take (n + m) rows)
entries_of_take_plus rows zero m = let k : m ≡ 0 + m = omega arith in ap (λ (i : ℕ). entries_of (take i rows)) k
entries_of_take_plus [] (suc n) m = ap entries_of (take-nil m ∙ sym (take-nil (suc n + m)))
entries_of_take_plus (row ∷ rows) (suc n) m =
    let k : suc (n + m) ≡ suc n + m = omega arith in
    ap (λ (es : List ViewEntry). entry_of row ∷ es) (entries_of_take_plus rows n m) ∙ ap (λ (i : ℕ). entries_of (take i (row ∷ rows))) k

whole_front : (rows : List ListedMessage) (n : ℕ) → length (entries_of (take n rows)) ≡ length rows → entries_of (take n rows) ≡ entries_of rows
whole_front [] n h = ap entries_of (take-nil n)
whole_front (row ∷ rows) zero h = absurd (omega (arith, h))
whole_front (row ∷ rows) (suc n) h = ap (λ (es : List ViewEntry). entry_of row ∷ es) (whole_front rows n (omega (arith, h)))

-- ---- answers that show messages as the listing has them

or_both_false : (a b : Bool) → (a || b) ≡ false → (a ≡ false) × (b ≡ false)
or_both_false true b h = absurd (false≢true (sym h))
or_both_false false b h = (refl, h)

module _ (rows : List ListedMessage) (r : AreRisingRows 1 rows) where
  one_shown : (n : ℕ) (answer : Answer) → is_altering answer ≡ false → (m : ℕ) × (after_answer rows (entries_of (take n rows)) answer ≡ entries_of (take m rows))
  one_shown n (Expunge k) h = absurd (false≢true (sym h))
  one_shown n (Fetch k items) h = absurd (false≢true (sym h))
  one_shown n (Exists count) h =
      let more = count - length (entries_of (take n rows)) in
      (n + more, ap (λ (rs : List ListedMessage). entries_of (take n rows) ++ entries_of (take more rs)) (beyond_front 0 n rows r) ∙ entries_of_take_plus rows n more)
  one_shown n _ h = (n, refl)

  all_shown : (n : ℕ) (own : List Answer) → list_any is_altering own ≡ false → (m : ℕ) × (after_answers rows (entries_of (take n rows)) own ≡ entries_of (take m rows))
  all_shown n [] h = (n, refl)
  all_shown n (answer ∷ own) h =
      let k = or_both_false (is_altering answer) (list_any is_altering own) h in
      let one = one_shown n answer k.0 in
      let all = all_shown one.0 own k.1 in
      (all.0, ap (λ (es : List ViewEntry). after_answers rows es own) one.1 ∙ all.1)

  shown_first : (own : List Answer) → list_any is_altering own ≡ false → length (after_answers rows [] own) ≡ length rows → after_answers rows [] own ≡ entries_of rows
  shown_first own h l =
      let all = all_shown 0 own h in
      all.1 ∙ whole_front rows all.0 (sym (ap length all.1) ∙ l)

-- ---- a new state

pub all_is_shown : (start : Counters) (ops : List Op) (rows : List ListedMessage) (was now : ViewState) (read_only : Bool) (front : SyncInput) → AreRisingRows 1 rows → rows ≡ rows_for start ops was
    → now ≡ record was { entries = entries_after_sync front.sync rows (view_after_reply rows was.entries front.silent front.own) } → IsFirstSight was.entries front → length now.entries ≡ length rows
    → (view : ViewState) → view_of (Selected now read_only) ≡ Some view → (uid : ℕ) → flags_at uid view.entries ≡ flags_at uid (entries_of (rows_for start ops view))
all_is_shown start ops rows was now read_only front r e n first l = λ view q uid.
    let entries_are : now.entries ≡ after_answers rows [] front.own =
    ap (λ (s : ViewState). s.entries) n
    ∙ ap (λ s. entries_after_sync s rows (view_after_reply rows was.entries front.silent front.own)) first.unsynced
    ∙ ap (λ es. view_after_reply rows es front.silent front.own) first.nothing
    ∙ ap (λ ss. view_after_reply rows [] ss front.own) first.silent in
    let whole : now.entries ≡ entries_of rows = entries_are ∙ shown_first rows r front.own first.own (sym (ap length entries_are) ∙ l) in
    let same : rows ≡ rows_for start ops now = e ∙ sym (ap (rows_for start ops) n) in
    let here : flags_at uid now.entries ≡ flags_at uid (entries_of (rows_for start ops now)) = ap (flags_at uid) whole ∙ ap (λ (rs : List ListedMessage). flags_at uid (entries_of rs)) same in
    subst (λ (v : ViewState). flags_at uid v.entries ≡ flags_at uid (entries_of (rows_for start ops v))) (same_view now view q) here

-- a state that shows its whole mailbox needs no notes
pub shown_noted : (start : Counters) (ops : List Op) (state : State) (all : Bool) (pending : Pending) (view : ViewState) → ShowsAll start ops state all → all ≡ true → view_of state ≡ Some view → IsNotedFor start ops pending view
shown_noted start ops state all pending view h t q = inr (λ uid. inl (h t view q uid))
