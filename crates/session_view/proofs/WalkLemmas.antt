use Rattle.std.proofs.Common.{◌≡◌, ◌≢◌, ◌⊎◌, inl, inr, ℕ, zero, suc, ◌+◌, ◌-◌, ◌<◌, ◌≤◌, Bool, true, false, List, [], ◌∷◌, ◌++◌, length, slice_index_or, drop, drop-cons, is_some, refl, sym, ap, ◌∙◌, subst, append_assoc, append-nil, arith, length-append, Option, Some, None, Ok, Err, Result, OnOk}
use Rattle.std.specs.Prelude.{nat_eq}
use Rattle.std.specs.List.{filter, slice_get}
use Rattle.std.proofs.lemmas.Bool.{cases_Bool, false≢true}
use Rattle.std.proofs.lemmas.Bool.Decides.{nat_tests}
use Rattle.imap_answers.specs.declared.answer.Answer.{Answer}
use Rattle.imap_answers.specs.declared.answer.Answer.TheVariants.{Expunge}
use Rattle.mailbox_rows.specs.ListedMessage.{ListedMessage}
use Rattle.mailbox_rows.specs.RowViews.{AreRisingRows, rows_after_uid, row_of}
use Rattle.session_view.specs.NoteChanges.{AreAscending, all_fetched_flags, expunges_of_numbers, fetched_flags, gone_notes, notes_left_by_sync, patched_entries, without_from}
use Rattle.session_view.specs.Notes.{NameAllDifferences, IsSame, is_named}
use Rattle.session_view.specs.Replay.{after_answers, after_silent, without_message}
use Rattle.session_view.specs.Spans.{count_below}
use Rattle.session_view.specs.Sync.{exists_if_more, exists_of_sync, fetch_if_changed, fetches_of_sync, expunges, is_listed, expunge_if_gone, expunges_of_sync, staying_entries, sync_answers, view_after_sync}
use Rattle.session_view.specs.Views.{AreRising, entries_of, entry_of, last_from, last_uid, same_flags}
use Rattle.session_view.specs.Walks.{IsWalk, gone_numbers, notes_left, losses_from}
use Rattle.session_view.specs.declared.notes.Note.{Note}
use Rattle.session_view.specs.declared.notes.Note.TheVariants.{Gone}
use Rattle.session_view.specs.declared.view_entry.ViewEntry.{ViewEntry}
use Rattle.session_view.specs.declared.view_entry.SyncKind.{SyncKind}
use Rattle.session_view.specs.declared.view_entry.SyncKind.TheVariants.{Full, Partial}
use Rattle.session_view.specs.declared.reply_replay.SilentFlags.{SilentFlags}
use Rattle.session_view.specs.declared.sync_plan.SyncWalk.{SyncWalk}
use Rattle.session_view.proofs.FlagLemmas.{silent_append}
use Rattle.session_view.proofs.NoteLemmas.{no_change, no_loss}
use Rattle.session_view.proofs.PlaceLemmas.{count_first}
use Rattle.session_view.proofs.SyncLemmas.{after_append, arrivals, length_map, after_answers_of_expunges, rising_append, rising_beyond, rising_count, rising_filter, syncs_replay}

pub on_ok : {T E P Q : Type 0} (r : Result T E) → (P → Q) → OnOk r P → OnOk r Q
on_ok (Ok x) f h = f h
on_ok (Err e) f h = h

-- ---- messages that don't differ

module _ (rows : List ListedMessage) where
  abbrev pub AllSame : List ViewEntry → Type 0
  AllSame [] = Unit {0}
  AllSame (e ∷ es) = IsSame rows e × AllSame es

  same_listed : (e : ViewEntry) → IsSame rows e → is_listed rows e ≡ true
  same_listed e h = rw (h.1) refl

  same_expunges : (n : ℕ) (front es : List ViewEntry) → AllSame front → expunges rows n (front ++ es) ≡ expunges rows (n + length front) es
  same_expunges n [] es h = ap (λ k. expunges rows k es) (omega arith)
  same_expunges n (x ∷ front) es h =
      ap (λ (as' : List Answer). expunges rows (n + 1) (front ++ es) ++ as') (no_loss rows n x h.0)
      ∙ append-nil (expunges rows (n + 1) (front ++ es)) ∙ same_expunges (n + 1) front es h.1 ∙ ap (λ k. expunges rows k es) (omega arith)

  same_filter : (front es : List ViewEntry) → AllSame front → filter (is_listed rows) (front ++ es) ≡ front ++ filter (is_listed rows) es
  same_filter [] es h = refl
  same_filter (x ∷ front) es h = rw (same_listed x h.0) (ap (λ (xs : List ViewEntry). x ∷ xs) (same_filter front es h.1))

  same_staying : (kind : SyncKind) (front es : List ViewEntry) → AllSame front → staying_entries kind rows (front ++ es) ≡ front ++ staying_entries kind rows es
  same_staying Full front es h = same_filter front es h
  same_staying Partial front es h = refl

  same_changes : (modseq : Bool) (n : ℕ) (front es : List ViewEntry) → AllSame front → fetches_of_sync modseq rows n (front ++ es) ≡ fetches_of_sync modseq rows (n + length front) es
  same_changes modseq n [] es h = ap (λ k. fetches_of_sync modseq rows k es) (omega arith)
  same_changes modseq n (x ∷ front) es h =
      ap (λ (as' : List Answer). as' ++ fetches_of_sync modseq rows (n + 1) (front ++ es)) (no_change modseq rows n x h.0)
      ∙ same_changes modseq (n + 1) front es h.1 ∙ ap (λ k. fetches_of_sync modseq rows k es) (omega arith)

  same_gone : (front es : List ViewEntry) → AllSame front → gone_notes rows (front ++ es) ≡ gone_notes rows es
  same_gone [] es h = refl
  same_gone (x ∷ front) es h = rw (same_listed x h.0) (same_gone front es h.1)

  same_left : (kind : SyncKind) (front es : List ViewEntry) → AllSame front → notes_left_by_sync kind rows (front ++ es) ≡ notes_left_by_sync kind rows es
  same_left Full front es h = refl
  same_left Partial front es h = same_gone front es h

  same_losses : (kind : SyncKind) (n : ℕ) (front es : List ViewEntry) → AllSame front → losses_from kind rows n (front ++ es) ≡ losses_from kind rows (n + length front) es
  same_losses Full n front es h = same_expunges n front es h
  same_losses Partial n front es h = refl

  -- ---- UIDs that name none of these messages

  unnamed : (low : ℕ) (us : List ℕ) (x : ViewEntry) → x.uid < low → AreAscending low us → is_named us x ≡ false
  unnamed low [] x l h = refl
  unnamed low (u ∷ us) x l h =
      let k : low ≤ u = h.0 in
      elim (cases_Bool (nat_eq u x.uid)) [
        | inl t ↦ absurd (grind (arith, nat_tests))
        | inr f ↦ rw f (unnamed u us x (omega arith) h.1)
      ]

  covered_same : (names : List ℕ) (x : ViewEntry) → is_named names x ≡ false → (is_named names x ≡ true) ⊎ IsSame rows x → IsSame rows x
  covered_same names x n h = elim h [ inl t ↦ absurd (false≢true (sym n ∙ t)) | inr s ↦ s ]

  rising_front : (low : ℕ) (front : List ViewEntry) (e : ViewEntry) (back : List ViewEntry) → AreRising low (front ++ e ∷ back) → low ≤ e.uid
  rising_front low [] e back h = h.0
  rising_front low (x ∷ front) e back h = let k : low ≤ x.uid = h.0 in let l : x.uid + 1 ≤ e.uid = rising_front (x.uid + 1) front e back h.1 in omega arith

  -- before the message with the least named UID, none differs
  pub front_same : (u : ℕ) (us : List ℕ) → AreAscending u us → (low : ℕ) (front : List ViewEntry) (e : ViewEntry) (back : List ViewEntry) → AreRising low (front ++ e ∷ back) → e.uid ≡ u → NameAllDifferences (u ∷ us) rows (front ++ e ∷ back)
      → AllSame front × NameAllDifferences (u ∷ us) rows (e ∷ back)
  front_same u us a low [] e back r q h = (tt, h)
  front_same u us a low (x ∷ front) e back r q h =
      let l : x.uid + 1 ≤ e.uid = rising_front (x.uid + 1) front e back r.1 in
      let rest = front_same u us a (x.uid + 1) front e back r.1 q h.1 in
      ((covered_same (u ∷ us) x (unnamed u (u ∷ us) x (omega arith) (omega arith, a)) h.0, rest.0), rest.1)

  -- no message has this UID
  abbrev pub NoneHas : ℕ → List ViewEntry → Type 0
  NoneHas uid [] = Unit {0}
  NoneHas uid (e ∷ es) = (e.uid ≢ uid) × NoneHas uid es

  pub rising_none : (uid low : ℕ) (es : List ViewEntry) → uid < low → AreRising low es → NoneHas uid es
  rising_none uid low [] l h = tt
  rising_none uid low (e ∷ es) l h = let k : low ≤ e.uid = h.0 in ((λ q. omega arith), rising_none uid (e.uid + 1) es (omega arith) h.1)

  pub none_drop : (uid n : ℕ) (es : List ViewEntry) → NoneHas uid es → NoneHas uid (drop n es)
  none_drop uid zero es h = h
  none_drop uid (suc n) [] h = tt
  none_drop uid (suc n) (e ∷ es) h = none_drop uid n es h.1

  is_named_tail : (u : ℕ) (us : List ℕ) (e : ViewEntry) → e.uid ≢ u → is_named (u ∷ us) e ≡ true → is_named us e ≡ true
  is_named_tail u us e n h =
      elim (cases_Bool (nat_eq u e.uid)) [
        | inl t ↦ absurd (n (grind (arith, nat_tests)))
        | inr f ↦ rw f at h
      ]

  pub covers_tail : (u : ℕ) (us : List ℕ) (es : List ViewEntry) → NoneHas u es → NameAllDifferences (u ∷ us) rows es → NameAllDifferences us rows es
  covers_tail u us [] n h = tt
  covers_tail u us (e ∷ es) n h = (elim h.0 [ inl t ↦ inl (is_named_tail u us e n.0 t) | inr s ↦ inr s ], covers_tail u us es n.1 h.1)

  -- the message was done already
  pub none_after : (u low n : ℕ) (view : List ViewEntry) → AreRising low view → count_below u view < n → NoneHas u (drop n view)
  none_after u low zero view r l = absurd (omega arith)
  none_after u low (suc n) [] r l = tt
  none_after u low (suc n) (e ∷ es) r l =
      elim (count_first u low e es r) [
        | inl h ↦ let k : count_below u (e ∷ es) ≡ suc (count_below u es) = h.1 in none_after u (e.uid + 1) n es r.1 (omega arith)
        | inr h ↦ let k : u ≤ e.uid = h.0 in none_drop u n es (rising_none u (e.uid + 1) es (omega arith) r.1)
      ]

  -- the view doesn't have the UID
  pub none_has : (u low : ℕ) (view : List ViewEntry) → AreRising low view → ((e : ViewEntry) → slice_get view (count_below u view) ≡ Some e → e.uid ≢ u) → NoneHas u view
  none_has u low [] r n = tt
  none_has u low (e ∷ es) r n =
      elim (count_first u low e es r) [
        | inl h ↦
            let k : count_below u (e ∷ es) ≡ suc (count_below u es) = h.1 in
            let less : e.uid < u = h.0 in
            ((λ q. omega arith), none_has u (e.uid + 1) es r.1 (λ x g. n x (ap (slice_get (e ∷ es)) k ∙ g)))
        | inr h ↦
            let k : u ≤ e.uid = h.0 in
            let first : e.uid ≢ u = n e (ap (slice_get (e ∷ es)) h.1) in
            (first, rising_none u (e.uid + 1) es (let m : u ≢ e.uid = λ q. first (sym q) in omega arith) r.1)
      ]

-- ---- places

pub drop_at : (view : List ViewEntry) (n : ℕ) (e : ViewEntry) → slice_get view n ≡ Some e → drop n view ≡ e ∷ drop (n + 1) view
drop_at [] n e h = cc
drop_at (x ∷ view) zero e h = let k : x ≡ e = cc in ap (λ (y : ViewEntry). y ∷ view) k
drop_at (x ∷ view) (suc n) e h = let k : suc (n + 1) ≡ suc n + 1 = omega arith in drop_at view n e h ∙ ap (λ (m : ℕ). e ∷ drop m (x ∷ view)) k

pub drop_next : (view : List ViewEntry) (n : ℕ) (e : ViewEntry) (back : List ViewEntry) → drop n view ≡ e ∷ back → drop (n + 1) view ≡ back
drop_next [] zero e back h = cc
drop_next [] (suc n) e back h = cc
drop_next (x ∷ view) zero e back h = let k : view ≡ back = cc in k
drop_next (x ∷ view) (suc n) e back h = let k : suc n + 1 ≡ suc (n + 1) = omega arith in ap (λ (m : ℕ). drop m (x ∷ view)) k ∙ drop_next view n e back h

pub drop_within : (view : List ViewEntry) (n : ℕ) (e : ViewEntry) (back : List ViewEntry) → drop n view ≡ e ∷ back → n + 1 ≤ length view
drop_within [] zero e back h = cc
drop_within [] (suc n) e back h = cc
drop_within (x ∷ view) zero e back h = omega arith
drop_within (x ∷ view) (suc n) e back h = let k : n + 1 ≤ length view = drop_within view n e back h in omega arith

-- the messages from one place to a later one
cut_drop : (view : List ViewEntry) (n m : ℕ) → n ≤ m → m ≤ length view → (front : List ViewEntry) × (length front ≡ m - n) × (drop n view ≡ front ++ drop m view)
cut_drop view zero zero l w = ([], omega arith, refl)
cut_drop [] zero (suc m) l w = absurd (omega arith)
cut_drop (e ∷ view) zero (suc m) l w =
    let rest = cut_drop view zero m (omega arith) (omega arith) in
    (e ∷ rest.0, (let k : length rest.0 ≡ m - 0 = rest.1 in omega arith), ap (λ (xs : List ViewEntry). e ∷ xs) rest.2)
cut_drop view (suc n) zero l w = absurd (omega arith)
cut_drop [] (suc n) (suc m) l w = absurd (omega arith)
cut_drop (e ∷ view) (suc n) (suc m) l w =
    let rest = cut_drop view n m (omega arith) (omega arith) in
    (rest.0, (let k : length rest.0 ≡ m - n = rest.1 in omega arith), rest.2)

pub rising_drop : (low n : ℕ) (view : List ViewEntry) → AreRising low view → (from : ℕ) × AreRising from (drop n view)
rising_drop low zero view h = (low, h)
rising_drop low (suc n) [] h = (low, tt)
rising_drop low (suc n) (e ∷ view) h = rising_drop (e.uid + 1) n view h.1

-- ---- the walk

module _ (kind : SyncKind) (modseq : Bool) (rows : List ListedMessage) (view : List ViewEntry) (rest : List ℕ) where
  ascending_rest : (u : ℕ) → AreAscending 0 (u ∷ rest) → AreAscending 0 rest
  ascending_rest u h = lower u 0 rest (omega arith) h.1
    where
      lower : (high low : ℕ) (us : List ℕ) → low ≤ high → AreAscending high us → AreAscending low us
      lower high low [] l k = tt
      lower high low (u ∷ us) l k = (let m : high ≤ u = k.0 in omega arith, k.1)

  -- no message that isn't done has this UID
  pub walk_past_absent_uid : (u : ℕ) (w : SyncWalk) → NoneHas rows u (drop w.done view) → IsWalk kind modseq rows view (u ∷ rest) w → IsWalk kind modseq rows view rest w
  walk_past_absent_uid u w n s = record {
    within = s.within;
    ascending = ascending_rest u s.ascending;
    covers = covers_tail rows u rest (drop w.done view) n s.covers;
    few = s.few;
    lost = s.lost;
    sent = s.sent;
    fetched = s.fetched;
    left = s.left;
  }

  -- the walk reaches the message with the next UID
  pub walk_to_named_uid : (e : ViewEntry) (p : ℕ) (w : SyncWalk) → AreRising 1 view → w.done ≤ p → slice_get view p ≡ Some e → IsWalk kind modseq rows view (e.uid ∷ rest) w → IsWalk kind modseq rows view (e.uid ∷ rest) (record w { done = p })
  walk_to_named_uid e p w r l g s =
      let here = drop_at view p e g in
      let back = drop (p + 1) view in
      let inside : p + 1 ≤ length view = drop_within view p e back here in
      let cut = cut_drop view w.done p l (omega arith) in
      let count : length cut.0 ≡ p - w.done = cut.1 in
      let split : drop w.done view ≡ cut.0 ++ e ∷ back = cut.2 ∙ ap (λ (xs : List ViewEntry). cut.0 ++ xs) here in
      let low = rising_drop 1 w.done view r in
      let same = front_same rows e.uid rest s.ascending.1 low.0 cut.0 e back (subst (AreRising low.0) split low.1) refl (subst (NameAllDifferences (e.uid ∷ rest) rows) split s.covers) in
      let few = s.few in
      let number : w.done - length w.gone.items + 1 + length cut.0 ≡ p - length w.gone.items + 1 = omega arith in
      let from : w.done + 1 + length cut.0 ≡ p + 1 = omega arith in
      record {
        within = omega arith;
        ascending = s.ascending;
        covers = subst (NameAllDifferences (e.uid ∷ rest) rows) (sym here) same.1;
        few = omega arith;
        lost =
            ap (λ (xs : List ViewEntry). losses_from kind rows (p + 1) xs ++ expunges_of_numbers w.gone.items) here
            ∙ ap (λ k. losses_from kind rows k (e ∷ back) ++ expunges_of_numbers w.gone.items) (sym from)
            ∙ ap (λ (as' : List Answer). as' ++ expunges_of_numbers w.gone.items) (sym (same_losses rows kind (w.done + 1) cut.0 (e ∷ back) same.0))
            ∙ ap (λ (xs : List ViewEntry). losses_from kind rows (w.done + 1) xs ++ expunges_of_numbers w.gone.items) (sym split)
            ∙ s.lost;
        sent =
            ap (λ (xs : List ViewEntry). w.fetches.items ++ fetches_of_sync modseq rows (p - length w.gone.items + 1) (staying_entries kind rows xs)) here
            ∙ ap (λ k. w.fetches.items ++ fetches_of_sync modseq rows k (staying_entries kind rows (e ∷ back))) (sym number)
            ∙ ap (λ (as' : List Answer). w.fetches.items ++ as') (sym (same_changes rows modseq (w.done - length w.gone.items + 1) cut.0 (staying_entries kind rows (e ∷ back)) same.0))
            ∙ ap (λ (xs : List ViewEntry). w.fetches.items ++ fetches_of_sync modseq rows (w.done - length w.gone.items + 1) xs) (sym (same_staying rows kind cut.0 (e ∷ back) same.0))
            ∙ ap (λ (xs : List ViewEntry). w.fetches.items ++ fetches_of_sync modseq rows (w.done - length w.gone.items + 1) (staying_entries kind rows xs)) (sym split)
            ∙ s.sent;
        fetched = s.fetched;
        left =
            ap (λ (xs : List ViewEntry). w.left.items ++ notes_left_by_sync kind rows xs) here
            ∙ ap (λ (ns : List Note). w.left.items ++ ns) (sym (same_left rows kind cut.0 (e ∷ back) same.0))
            ∙ ap (λ (xs : List ViewEntry). w.left.items ++ notes_left_by_sync kind rows xs) (sym split)
            ∙ s.left;
      }

expunges_of_numbers-append : (ns : List ℕ) (n : ℕ) → expunges_of_numbers (ns ++ n ∷ []) ≡ Expunge n ∷ expunges_of_numbers ns
expunges_of_numbers-append [] n = refl
expunges_of_numbers-append (m ∷ ns) n = ap (λ (as' : List Answer). as' ++ Expunge m ∷ []) (expunges_of_numbers-append ns n)

fetched_flags_append : (xs ys : List Answer) → all_fetched_flags (xs ++ ys) ≡ all_fetched_flags xs ++ all_fetched_flags ys
fetched_flags_append [] ys = refl
fetched_flags_append (x ∷ xs) ys = ap (λ (ss : List SilentFlags). fetched_flags x ++ ss) (fetched_flags_append xs ys) ∙ sym (append_assoc (fetched_flags x) (all_fetched_flags xs) (all_fetched_flags ys))

module _ (kind : SyncKind) (modseq : Bool) (rows : List ListedMessage) (view : List ViewEntry) (rest : List ℕ) where
  staying_listed : (k : SyncKind) (e : ViewEntry) (es : List ViewEntry) → is_listed rows e ≡ true → staying_entries k rows (e ∷ es) ≡ e ∷ staying_entries k rows es
  staying_listed Full e es h = rw h refl
  staying_listed Partial e es h = refl

  left_listed : (k : SyncKind) (e : ViewEntry) (es : List ViewEntry) → is_listed rows e ≡ true → notes_left_by_sync k rows (e ∷ es) ≡ notes_left_by_sync k rows es
  left_listed Full e es h = refl
  left_listed Partial e es h = rw h refl

  losses_listed : (k : SyncKind) (n : ℕ) (e : ViewEntry) (es : List ViewEntry) → is_listed rows e ≡ true → losses_from k rows n (e ∷ es) ≡ losses_from k rows (n + 1) es
  losses_listed Full n e es h = rw h (append-nil (expunges rows (n + 1) es))
  losses_listed Partial n e es h = refl

  -- the next message is listed
  pub fetch_step : (e : ViewEntry) (row : ListedMessage) (back : List ViewEntry) (w v : SyncWalk) → drop w.done view ≡ e ∷ back → row_of e.uid rows ≡ Some row → NameAllDifferences rest rows back → v.done ≡ w.done + 1 → v.gone ≡ w.gone → v.left ≡ w.left
      → v.fetches.items ≡ w.fetches.items ++ fetch_if_changed modseq (w.done - length w.gone.items + 1) e (Some row)
      → v.flags.items ≡ w.flags.items ++ all_fetched_flags (fetch_if_changed modseq (w.done - length w.gone.items + 1) e (Some row))
      → IsWalk kind modseq rows view (e.uid ∷ rest) w → IsWalk kind modseq rows view rest v
  fetch_step e row back w v here is c done gone left fetches flags s =
      let next : drop v.done view ≡ back = ap (λ n. drop n view) done ∙ drop_next view w.done e back here in
      let listed : is_listed rows e ≡ true = rw is refl in
      let within : w.done + 1 ≤ length view = drop_within view w.done e back here in
      let few = s.few in
      let count : length v.gone.items ≡ length w.gone.items = ap (λ g. length g.items) gone in
      let one = fetch_if_changed modseq (w.done - length w.gone.items + 1) e (Some row) in
      let number : v.done - length v.gone.items + 1 ≡ w.done - length w.gone.items + 1 + 1 = omega arith in
      record {
        within = omega arith;
        ascending = ascending_rest kind modseq rows view rest e.uid s.ascending;
        covers = subst (NameAllDifferences rest rows) (sym next) c;
        few = omega arith;
        lost =
            ap (λ (xs : List ViewEntry). losses_from kind rows (v.done + 1) xs ++ expunges_of_numbers v.gone.items) next
            ∙ ap (λ n. losses_from kind rows (n + 1) back ++ expunges_of_numbers v.gone.items) done
            ∙ ap (λ (as' : List Answer). as' ++ expunges_of_numbers v.gone.items) (sym (losses_listed kind (w.done + 1) e back listed))
            ∙ ap (λ g. losses_from kind rows (w.done + 1) (e ∷ back) ++ expunges_of_numbers g.items) gone
            ∙ ap (λ (xs : List ViewEntry). losses_from kind rows (w.done + 1) xs ++ expunges_of_numbers w.gone.items) (sym here)
            ∙ s.lost;
        sent =
            ap (λ (xs : List ViewEntry). v.fetches.items ++ fetches_of_sync modseq rows (v.done - length v.gone.items + 1) (staying_entries kind rows xs)) next
            ∙ ap (λ n. v.fetches.items ++ fetches_of_sync modseq rows n (staying_entries kind rows back)) number
            ∙ ap (λ (as' : List Answer). as' ++ fetches_of_sync modseq rows (w.done - length w.gone.items + 1 + 1) (staying_entries kind rows back)) fetches
            ∙ append_assoc w.fetches.items one (fetches_of_sync modseq rows (w.done - length w.gone.items + 1 + 1) (staying_entries kind rows back))
            ∙ ap (λ (o : Option ListedMessage). w.fetches.items ++ (fetch_if_changed modseq (w.done - length w.gone.items + 1) e o ++ fetches_of_sync modseq rows (w.done - length w.gone.items + 1 + 1) (staying_entries kind rows back))) (sym is)
            ∙ ap (λ (xs : List ViewEntry). w.fetches.items ++ fetches_of_sync modseq rows (w.done - length w.gone.items + 1) xs) (sym (staying_listed kind e back listed))
            ∙ ap (λ (xs : List ViewEntry). w.fetches.items ++ fetches_of_sync modseq rows (w.done - length w.gone.items + 1) (staying_entries kind rows xs)) (sym here)
            ∙ s.sent;
        fetched =
            flags ∙ ap (λ (ss : List SilentFlags). ss ++ all_fetched_flags one) s.fetched ∙ sym (fetched_flags_append w.fetches.items one) ∙ ap all_fetched_flags (sym fetches);
        left =
            ap (λ (xs : List ViewEntry). v.left.items ++ notes_left_by_sync kind rows xs) next
            ∙ ap (λ (ns : List Note). v.left.items ++ ns) (sym (left_listed kind e back listed))
            ∙ ap (λ l. l.items ++ notes_left_by_sync kind rows (e ∷ back)) left
            ∙ ap (λ (xs : List ViewEntry). w.left.items ++ notes_left_by_sync kind rows xs) (sym here)
            ∙ s.left;
      }

  gone_losses : (k : SyncKind) (n : ℕ) (e : ViewEntry) (es : List ViewEntry) (gone : List ℕ) → is_listed rows e ≡ false → losses_from k rows (n + 1) es ++ expunges_of_numbers (gone ++ gone_numbers k n) ≡ losses_from k rows n (e ∷ es) ++ expunges_of_numbers gone
  gone_losses Full n e es gone h =
      rw h (
      ap (λ (as' : List Answer). expunges rows (n + 1) es ++ as') (expunges_of_numbers-append gone n)
      ∙ sym (append_assoc (expunges rows (n + 1) es) (Expunge n ∷ []) (expunges_of_numbers gone)))
  gone_losses Partial n e es gone h = ap expunges_of_numbers (append-nil gone)

  gone_changes : (k : SyncKind) (done : ℕ) (e : ViewEntry) (es : List ViewEntry) (gone : List ℕ) → length gone ≤ done → row_of e.uid rows ≡ None
      → fetches_of_sync modseq rows (done + 1 - length (gone ++ gone_numbers k (done + 1)) + 1) (staying_entries k rows es) ≡ fetches_of_sync modseq rows (done - length gone + 1) (staying_entries k rows (e ∷ es))
  gone_changes Full done e es gone l h =
      let count : length (gone ++ (done + 1) ∷ []) ≡ length gone + 1 = length-append gone ((done + 1) ∷ []) in
      let out : is_listed rows e ≡ false = rw h refl in
      let number : done + 1 - length (gone ++ (done + 1) ∷ []) + 1 ≡ done - length gone + 1 = omega arith in
      rw out (ap (λ n. fetches_of_sync modseq rows n (filter (is_listed rows) es)) number)
  gone_changes Partial done e es gone l h =
      let count : length (gone ++ []) ≡ length gone = ap length (append-nil gone) in
      let number : done + 1 - length (gone ++ []) + 1 ≡ done - length gone + 1 + 1 = omega arith in
      ap (λ n. fetches_of_sync modseq rows n es) number ∙ ap (λ (o : Option ListedMessage). fetch_if_changed modseq (done - length gone + 1) e o ++ fetches_of_sync modseq rows (done - length gone + 1 + 1) es) (sym h)

  gone_left : (k : SyncKind) (e : ViewEntry) (es : List ViewEntry) (left : List Note) → is_listed rows e ≡ false → (left ++ notes_left k e.uid) ++ notes_left_by_sync k rows es ≡ left ++ notes_left_by_sync k rows (e ∷ es)
  gone_left Full e es left h = ap (λ (ns : List Note). ns ++ []) (append-nil left)
  gone_left Partial e es left h = rw h (append_assoc left (Gone e.uid ∷ []) (gone_notes rows es))

  gone_few : (k : SyncKind) (done : ℕ) (gone : List ℕ) → length gone ≤ done → length (gone ++ gone_numbers k (done + 1)) ≤ done + 1
  gone_few Full done gone l = let count : length (gone ++ (done + 1) ∷ []) ≡ length gone + 1 = length-append gone ((done + 1) ∷ []) in omega arith
  gone_few Partial done gone l = let count : length (gone ++ []) ≡ length gone = ap length (append-nil gone) in omega arith

  -- the next message is gone
  pub gone_step : (e : ViewEntry) (back : List ViewEntry) (w v : SyncWalk) → drop w.done view ≡ e ∷ back → row_of e.uid rows ≡ None → NameAllDifferences rest rows back → v.done ≡ w.done + 1 → v.gone.items ≡ w.gone.items ++ gone_numbers kind (w.done + 1)
      → v.left.items ≡ w.left.items ++ notes_left kind e.uid → v.fetches ≡ w.fetches → v.flags ≡ w.flags → IsWalk kind modseq rows view (e.uid ∷ rest) w → IsWalk kind modseq rows view rest v
  gone_step e back w v here is c done gone left fetches flags s =
      let next : drop v.done view ≡ back = ap (λ n. drop n view) done ∙ drop_next view w.done e back here in
      let out : is_listed rows e ≡ false = rw is refl in
      let within : w.done + 1 ≤ length view = drop_within view w.done e back here in
      let more : length (w.gone.items ++ gone_numbers kind (w.done + 1)) ≤ w.done + 1 = gone_few kind w.done w.gone.items s.few in
      let count : length v.gone.items ≡ length (w.gone.items ++ gone_numbers kind (w.done + 1)) = ap length gone in
      let gs = w.gone.items ++ gone_numbers kind (w.done + 1) in
      record {
        within = omega arith;
        ascending = ascending_rest kind modseq rows view rest e.uid s.ascending;
        covers = subst (NameAllDifferences rest rows) (sym next) c;
        few = omega arith;
        lost =
            ap (λ (xs : List ViewEntry). losses_from kind rows (v.done + 1) xs ++ expunges_of_numbers v.gone.items) next
            ∙ ap (λ n. losses_from kind rows (n + 1) back ++ expunges_of_numbers v.gone.items) done
            ∙ ap (λ (ns : List ℕ). losses_from kind rows (w.done + 1 + 1) back ++ expunges_of_numbers ns) gone
            ∙ gone_losses kind (w.done + 1) e back w.gone.items out
            ∙ ap (λ (xs : List ViewEntry). losses_from kind rows (w.done + 1) xs ++ expunges_of_numbers w.gone.items) (sym here)
            ∙ s.lost;
        sent =
            ap (λ (xs : List ViewEntry). v.fetches.items ++ fetches_of_sync modseq rows (v.done - length v.gone.items + 1) (staying_entries kind rows xs)) next
            ∙ ap (λ n. v.fetches.items ++ fetches_of_sync modseq rows (n - length v.gone.items + 1) (staying_entries kind rows back)) done
            ∙ ap (λ (ns : List ℕ). v.fetches.items ++ fetches_of_sync modseq rows (w.done + 1 - length ns + 1) (staying_entries kind rows back)) gone
            ∙ ap (λ (as' : List Answer). v.fetches.items ++ as') (gone_changes kind w.done e back w.gone.items s.few is)
            ∙ ap (λ (xs : List ViewEntry). v.fetches.items ++ fetches_of_sync modseq rows (w.done - length w.gone.items + 1) (staying_entries kind rows xs)) (sym here)
            ∙ ap (λ f. f.items ++ fetches_of_sync modseq rows (w.done - length w.gone.items + 1) (staying_entries kind rows (drop w.done view))) fetches
            ∙ s.sent;
        fetched = ap (λ f. f.items) flags ∙ s.fetched ∙ ap (λ f. all_fetched_flags f.items) (sym fetches);
        left =
            ap (λ (xs : List ViewEntry). v.left.items ++ notes_left_by_sync kind rows xs) next
            ∙ ap (λ (ns : List Note). ns ++ notes_left_by_sync kind rows back) left
            ∙ gone_left kind e back w.left.items out
            ∙ ap (λ (xs : List ViewEntry). w.left.items ++ notes_left_by_sync kind rows xs) (sym here)
            ∙ s.left;
      }

-- ---- at the end

all_unnamed : (rows : List ListedMessage) (es : List ViewEntry) → NameAllDifferences [] rows es → AllSame rows es
all_unnamed rows [] h = tt
all_unnamed rows (e ∷ es) h = (covered_same rows [] e refl h.0, all_unnamed rows es h.1)

no_losses : (kind : SyncKind) (n : ℕ) (rows : List ListedMessage) → losses_from kind rows n [] ≡ []
no_losses Full n rows = refl
no_losses Partial n rows = refl

no_staying : (kind : SyncKind) (rows : List ListedMessage) → staying_entries kind rows [] ≡ []
no_staying Full rows = refl
no_staying Partial rows = refl

no_left : (kind : SyncKind) (rows : List ListedMessage) → notes_left_by_sync kind rows [] ≡ []
no_left Full rows = refl
no_left Partial rows = refl

module _ (kind : SyncKind) (modseq : Bool) (rows : List ListedMessage) (view : List ViewEntry) (w : SyncWalk) (s : IsWalk kind modseq rows view [] w) where
  end_same : AllSame rows (drop w.done view)
  end_same = all_unnamed rows (drop w.done view) s.covers

  whole : drop w.done view ++ [] ≡ drop w.done view
  whole = append-nil (drop w.done view)

  pub end_lost : expunges_of_numbers w.gone.items ≡ expunges_of_sync kind rows view
  end_lost =
      let n = w.done + 1 + length (drop w.done view) in
      ap (λ (as' : List Answer). as' ++ expunges_of_numbers w.gone.items)
      (sym (ap (losses_from kind rows (w.done + 1)) (sym whole) ∙ same_losses rows kind (w.done + 1) (drop w.done view) [] end_same ∙ no_losses kind n rows))
      ∙ s.lost

  pub end_sent : w.fetches.items ≡ fetches_of_sync modseq rows 1 (staying_entries kind rows view)
  end_sent =
      let n = w.done - length w.gone.items + 1 in
      sym (append-nil w.fetches.items)
      ∙ ap (λ (as' : List Answer). w.fetches.items ++ as')
      (sym (
      ap (λ (es : List ViewEntry). fetches_of_sync modseq rows n (staying_entries kind rows es)) (sym whole)
      ∙ ap (fetches_of_sync modseq rows n) (same_staying rows kind (drop w.done view) [] end_same)
      ∙ same_changes rows modseq n (drop w.done view) (staying_entries kind rows []) end_same
      ∙ ap (fetches_of_sync modseq rows (n + length (drop w.done view))) (no_staying kind rows)))
      ∙ s.sent

  pub end_left : w.left.items ≡ notes_left_by_sync kind rows view
  end_left =
      sym (append-nil w.left.items)
      ∙ ap (λ (ns : List Note). w.left.items ++ ns)
      (sym (ap (notes_left_by_sync kind rows) (sym whole) ∙ same_left rows kind (drop w.done view) [] end_same ∙ no_left kind rows))
      ∙ s.left

  pub end_fetched : w.flags.items ≡ all_fetched_flags (fetches_of_sync modseq rows 1 (staying_entries kind rows view))
  end_fetched = s.fetched ∙ ap all_fetched_flags end_sent

-- ---- the changes to the view

expunged_replayed : (rows : List ListedMessage) (view : List ViewEntry) (ns : List ℕ) → after_answers rows view (expunges_of_numbers ns) ≡ without_from ns view
expunged_replayed rows view [] = refl
expunged_replayed rows view (n ∷ ns) = after_append rows view (expunges_of_numbers ns) (Expunge n ∷ []) ∙ ap (λ (es : List ViewEntry). without_message es n) (expunged_replayed rows view ns)

change_replayed : (rows : List ListedMessage) (modseq : Bool) (view : List ViewEntry) (n : ℕ) (e : ViewEntry) (row : Option ListedMessage) → after_answers rows view (fetch_if_changed modseq n e row) ≡ after_silent view (all_fetched_flags (fetch_if_changed modseq n e row))
change_replayed rows modseq view n e None = refl
change_replayed rows modseq view n e (Some row) = elim (cases_Bool (same_flags e.flags row.flags)) [ inl t ↦ rw t refl | inr f ↦ rw f refl ]

changes_replayed : (rows : List ListedMessage) (modseq : Bool) (view : List ViewEntry) (n : ℕ) (es : List ViewEntry) → after_answers rows view (fetches_of_sync modseq rows n es) ≡ after_silent view (all_fetched_flags (fetches_of_sync modseq rows n es))
changes_replayed rows modseq view n [] = refl
changes_replayed rows modseq view n (e ∷ es) =
    let one = fetch_if_changed modseq n e (row_of e.uid rows) in
    let more = fetches_of_sync modseq rows (n + 1) es in
    after_append rows view one more
    ∙ ap (λ (v : List ViewEntry). after_answers rows v more) (change_replayed rows modseq view n e (row_of e.uid rows))
    ∙ changes_replayed rows modseq (after_silent view (all_fetched_flags one)) (n + 1) es
    ∙ sym (silent_append view (all_fetched_flags one) (all_fetched_flags more))
    ∙ ap (after_silent view) (sym (fetched_flags_append one more))

losses_replayed : (kind : SyncKind) (rows : List ListedMessage) (view : List ViewEntry) → after_answers rows view (expunges_of_sync kind rows view) ≡ staying_entries kind rows view
losses_replayed Full rows view = after_answers_of_expunges rows [] view 1 refl
losses_replayed Partial rows view = refl

pub gone_out : (kind : SyncKind) (rows : List ListedMessage) (view : List ViewEntry) (gone : List ℕ) → expunges_of_numbers gone ≡ expunges_of_sync kind rows view → without_from gone view ≡ staying_entries kind rows view
gone_out kind rows view gone g = sym (expunged_replayed rows view gone) ∙ ap (after_answers rows view) g ∙ losses_replayed kind rows view

pub patches : (kind : SyncKind) (modseq : Bool) (rows : List ListedMessage) (view : List ViewEntry) (gone : List ℕ) (new : List ViewEntry) (flags : List SilentFlags)
    → expunges_of_numbers gone ≡ expunges_of_sync kind rows view → new ≡ entries_of (rows_after_uid (last_uid (staying_entries kind rows view)) rows) → flags ≡ all_fetched_flags (fetches_of_sync modseq rows 1 (staying_entries kind rows view))
    → patched_entries view gone new flags ≡ view_after_sync kind rows view
patches kind modseq rows view gone new flags g n f =
    let stay = staying_entries kind rows view in
    let sent = fetches_of_sync modseq rows 1 stay in
    ap (λ (es : List ViewEntry). after_silent (es ++ new) flags) (gone_out kind rows view gone g)
    ∙ ap (λ (es : List ViewEntry). after_silent (stay ++ es) flags) n
    ∙ ap (λ (es : List ViewEntry). after_silent es flags) (sym (arrivals rows stay))
    ∙ ap (after_silent (after_answers rows stay (exists_of_sync rows stay))) f
    ∙ sym (changes_replayed rows modseq (after_answers rows stay (exists_of_sync rows stay)) 1 stay)
    ∙ sym (after_append rows stay (exists_of_sync rows stay) sent)
    ∙ ap (λ (es : List ViewEntry). after_answers rows es (exists_of_sync rows stay ++ sent)) (sym (losses_replayed kind rows view))
    ∙ sym (after_append rows view (expunges_of_sync kind rows view) (exists_of_sync rows stay ++ sent))
    ∙ syncs_replay kind modseq rows view

-- ---- numbers

length_expunged : (ns : List ℕ) → length (expunges_of_numbers ns) ≡ length ns
length_expunged [] = refl
length_expunged (n ∷ ns) = let k = length-append (expunges_of_numbers ns) (Expunge n ∷ []) in let l = length_expunged ns in omega (arith, k, l)

length_expunges : (rows : List ListedMessage) (n : ℕ) (es : List ViewEntry) → length (expunges rows n es) + length (filter (is_listed rows) es) ≡ length es
length_expunges rows n [] = refl
length_expunges rows n (e ∷ es) =
    let rest = length_expunges rows (n + 1) es in
    elim (cases_Bool (is_listed rows e)) [
      | inl t ↦ rw t (let k : length (expunges rows (n + 1) es ++ []) ≡ length (expunges rows (n + 1) es) = ap length (append-nil (expunges rows (n + 1) es)) in omega (arith, k, rest))
      | inr f ↦ rw f (let k = length-append (expunges rows (n + 1) es) (Expunge n ∷ []) in omega (arith, k, rest))
    ]

length_losses : (kind : SyncKind) (rows : List ListedMessage) (view : List ViewEntry) → length (expunges_of_sync kind rows view) + length (staying_entries kind rows view) ≡ length view
length_losses Full rows view = length_expunges rows 1 view
length_losses Partial rows view = omega arith

-- taking messages out doesn't make a list longer
without_shorter : (view : List ViewEntry) (k : ℕ) → length (without_message view k) ≤ length view
without_shorter [] k = omega arith
without_shorter (e ∷ es) k =
    elim (cases_Bool (nat_eq k 1)) [
      | inl t ↦ rw t (omega arith)
      | inr f ↦ rw f (let less : length (without_message es (k - 1)) ≤ length es = without_shorter es (k - 1) in omega arith)
    ]

pub gone_shorter : (gone : List ℕ) (view : List ViewEntry) → length (without_from gone view) ≤ length view
gone_shorter [] view = omega arith
gone_shorter (n ∷ ns) view =
    let less : length (without_from ns view) ≤ length view = gone_shorter ns view in
    let one : length (without_message (without_from ns view) n) ≤ length (without_from ns view) = without_shorter (without_from ns view) n in
    omega arith

pub gone_count : (kind : SyncKind) (rows : List ListedMessage) (view : List ViewEntry) (gone : List ℕ) → expunges_of_numbers gone ≡ expunges_of_sync kind rows view → length gone + length (staying_entries kind rows view) ≡ length view
gone_count kind rows view gone g =
    let k = length_expunged gone in
    let l : length (expunges_of_numbers gone) ≡ length (expunges_of_sync kind rows view) = ap length g in
    let m = length_losses kind rows view in
    omega (arith, k, l, m)

pub announced_so : (kind : SyncKind) (rows : List ListedMessage) (view : List ViewEntry) (count gone now : ℕ) → count ≡ length view → gone + length (staying_entries kind rows view) ≡ length view → now ≡ length (rows_after_uid (last_uid (staying_entries kind rows view)) rows)
    → exists_if_more (count - gone) (count - gone + now) ≡ exists_of_sync rows (staying_entries kind rows view)
announced_so kind rows view count gone now c g n =
    let stay = staying_entries kind rows view in
    let a : count - gone ≡ length stay = omega (arith, c, g) in
    let b : count - gone + now ≡ length stay + length (rows_after_uid (last_uid stay) rows) = omega (arith, a, n) in
    ap (λ m. exists_if_more m (count - gone + now)) a ∙ ap (λ m. exists_if_more (length stay) m) b

last_append : (low : ℕ) (xs ys : List ViewEntry) → last_from low (xs ++ ys) ≡ last_from (last_from low xs) ys
last_append low [] ys = refl
last_append low (x ∷ xs) ys = last_append x.uid xs ys

rising_staying : (kind : SyncKind) (rows : List ListedMessage) (view : List ViewEntry) → AreRising 1 view → AreRising 1 (staying_entries kind rows view)
rising_staying Full rows view h = rising_filter (is_listed rows) 1 view h
rising_staying Partial rows view h = h

-- the number of staying and new messages is at most the last UID
pub few_noted : (kind : SyncKind) (rows : List ListedMessage) (view new : List ViewEntry) (last : ℕ) → AreRising 1 view → AreRisingRows 1 rows → new ≡ entries_of (rows_after_uid (last_uid (staying_entries kind rows view)) rows) → last ≡ last_from (last_uid (staying_entries kind rows view)) new
    → length (staying_entries kind rows view) + length new ≤ last
few_noted kind rows view new last v r n l =
    let stay = staying_entries kind rows view in
    let up : AreRising (last_uid stay + 1) new = subst (λ (es : List ViewEntry). AreRising (last_uid stay + 1) es) (sym n) (rising_beyond (last_uid stay) 1 rows r).0 in
    let all : AreRising 1 (stay ++ new) = rising_append 0 stay new (rising_staying kind rows view v) up in
    let count : 0 + length (stay ++ new) ≤ last_from 0 (stay ++ new) = rising_count 0 (stay ++ new) all in
    let sum = length-append stay new in
    let e : last_from 0 (stay ++ new) ≡ last = last_append 0 stay new ∙ sym l in
    omega (arith, count, sum, e)

-- ---- as the code computes it

-- the walk that results from looking at the next message, if this has the next UID
pub named_next : (kind : SyncKind) (modseq : Bool) (rows : List ListedMessage) (view : List ViewEntry) (rest : List ℕ) (e : ViewEntry) (uid p : ℕ) (w v : SyncWalk) → AreRising 1 view → w.done ≤ p → slice_get view p ≡ Some e → e.uid ≡ uid
    → ((view : List ViewEntry) (rest : List ℕ) (back : List ViewEntry) → drop p view ≡ e ∷ back → NameAllDifferences rest rows back → IsWalk kind modseq rows view (e.uid ∷ rest) (record w { done = p }) → IsWalk kind modseq rows view rest v)
    → IsWalk kind modseq rows view (uid ∷ rest) w → IsWalk kind modseq rows view rest v
named_next kind modseq rows view rest e uid p w v r l g q took s =
    let at = walk_to_named_uid kind modseq rows view rest e p w r l g (subst (λ u. IsWalk kind modseq rows view (u ∷ rest) w) (sym q) s) in
    let here = drop_at view p e g in
    let back = drop (p + 1) view in
    let low = rising_drop 1 p view r in
    let rises : AreRising low.0 (e ∷ back) = subst (AreRising low.0) here low.1 in
    let covers : NameAllDifferences (e.uid ∷ rest) rows (e ∷ back) = subst (NameAllDifferences (e.uid ∷ rest) rows) here at.covers in
    took view rest back here (covers_tail rows e.uid rest back (rising_none rows e.uid (e.uid + 1) back (omega arith) rises.1) covers.1) at

pub on_ok_two : {T E P Q R : Type 0} (r : Result T E) → (P → Q → R) → OnOk r P → OnOk r Q → OnOk r R
on_ok_two (Ok x) f h k = f h k
on_ok_two (Err e) f h k = h

-- the last listed message
pub last_staying : (rows : List ListedMessage) (low : ℕ) (view : List ViewEntry) (p : ℕ) (d : ViewEntry) → p < length view → is_listed rows (slice_index_or view p d) ≡ true → filter (is_listed rows) (drop (suc p) view) ≡ []
    → (slice_index_or view p d).uid ≡ last_from low (filter (is_listed rows) view)
last_staying rows low [] p d l t n = absurd (omega arith)
last_staying rows low (e ∷ view) zero d l t n = rw t (ap (last_from e.uid) (sym n))
last_staying rows low (e ∷ view) (suc p) d l t n =
    elim (cases_Bool (is_listed rows e)) [
      | inl h ↦ rw h (last_staying rows e.uid view p d (omega arith) t n)
      | inr h ↦ rw h (last_staying rows low view p d (omega arith) t n)
    ]

-- the last listed message, by the UID at its place
pub last_by_uid : (rows : List ListedMessage) (view : List ViewEntry) (p uid : ℕ) → p < length view → ((d : ViewEntry) → uid ≡ (slice_index_or view p d).uid) → is_some (row_of uid rows) ≡ true → filter (is_listed rows) (drop (p + 1) view) ≡ []
    → uid ≡ last_uid (filter (is_listed rows) view)
last_by_uid rows [] p uid l u t n = absurd (omega arith)
last_by_uid rows (e ∷ view) p uid l u t n =
    let k : p + 1 ≡ suc p = omega arith in
    u e
    ∙ last_staying rows 0 (e ∷ view) p e l (ap (λ (v : ℕ). is_some (row_of v rows)) (sym (u e)) ∙ t)
    (subst (λ (m : ℕ). filter (is_listed rows) (drop m (e ∷ view)) ≡ []) k n)

pub none_by_uid : (rows : List ListedMessage) (view : List ViewEntry) (p uid : ℕ) → p < length view → ((d : ViewEntry) → uid ≡ (slice_index_or view p d).uid) → is_some (row_of uid rows) ≡ false → filter (is_listed rows) (drop (p + 1) view) ≡ []
    → filter (is_listed rows) (drop p view) ≡ []
none_by_uid rows [] p uid l u f n = absurd (omega arith)
none_by_uid rows (e ∷ view) p uid l u f n =
    let k : p + 1 ≡ suc p = omega arith in
    let x = slice_index_or (e ∷ view) p e in
    let gone : is_listed rows x ≡ false = ap (λ (v : ℕ). is_some (row_of v rows)) (sym (u e)) ∙ f in
    ap (filter (is_listed rows)) (drop-cons (e ∷ view) p e l)
    ∙ rw gone (subst (λ (m : ℕ). filter (is_listed rows) (drop m (e ∷ view)) ≡ []) k n)

-- one further EXPUNGE before the others
pub expunges_at_next_place : (rows : List ListedMessage) (view : List ViewEntry) (p : ℕ) (old mid new : List Answer) → p < length view → mid ≡ old ++ expunges rows (p + 1 + 1) (drop (p + 1) view)
    → ((d : ViewEntry) → new ≡ mid ++ expunge_if_gone rows (p + 1) (slice_index_or view p d)) → new ≡ old ++ expunges rows (p + 1) (drop p view)
expunges_at_next_place rows [] p old mid new l m n = absurd (omega arith)
expunges_at_next_place rows (e ∷ view) p old mid new l m n =
    let k : p + 1 ≡ suc p = omega arith in
    let x = slice_index_or (e ∷ view) p e in
    let later = expunges rows (p + 1 + 1) (drop (p + 1) (e ∷ view)) in
    n e
    ∙ ap (λ (as' : List Answer). as' ++ expunge_if_gone rows (p + 1) x) m
    ∙ append_assoc old later (expunge_if_gone rows (p + 1) x)
    ∙ ap (λ (xs : List ViewEntry). old ++ expunges rows (p + 1) (x ∷ xs)) (ap (λ (m : ℕ). drop m (e ∷ view)) k)
    ∙ ap (λ (xs : List ViewEntry). old ++ expunges rows (p + 1) xs) (sym (drop-cons (e ∷ view) p e l))

pub length_arrivals : (new : List ViewEntry) (rows : List ListedMessage) → new ≡ entries_of rows → length new ≡ length rows
length_arrivals new rows n = ap length n ∙ length_map entry_of rows

pub arrivals_from : (kind : SyncKind) (rows : List ListedMessage) (view empty new : List ViewEntry) (last : ℕ) → new ≡ empty ++ entries_of (rows_after_uid last rows) → empty ≡ [] → last ≡ last_uid (staying_entries kind rows view) → new ≡ entries_of (rows_after_uid (last_uid (staying_entries kind rows view)) rows)
arrivals_from kind rows view empty new last n e l = n ∙ ap (λ (es : List ViewEntry). es ++ entries_of (rows_after_uid last rows)) e ∙ ap (λ u. entries_of (rows_after_uid u rows)) l

pub all_answers : (kind : SyncKind) (modseq : Bool) (rows : List ListedMessage) (view new arrivals : List ViewEntry) (gone numbers : List ℕ) (count : ℕ) (answers fetches : List Answer)
    → answers ≡ expunges_of_numbers numbers ++ (exists_if_more (count - length numbers) (count - length numbers + length arrivals) ++ fetches) → numbers ≡ gone → arrivals ≡ new → count ≡ length view
    → expunges_of_numbers gone ≡ expunges_of_sync kind rows view → new ≡ entries_of (rows_after_uid (last_uid (staying_entries kind rows view)) rows) → fetches ≡ fetches_of_sync modseq rows 1 (staying_entries kind rows view)
    → answers ≡ sync_answers kind modseq rows view
all_answers kind modseq rows view new arrivals gone numbers count answers fetches a g c n l e f =
    let stay = staying_entries kind rows view in
    a
    ∙ ap (λ (gs : List ℕ). expunges_of_numbers gs ++ (exists_if_more (count - length gs) (count - length gs + length arrivals) ++ fetches)) g
    ∙ ap (λ (es : List ViewEntry). expunges_of_numbers gone ++ (exists_if_more (count - length gone) (count - length gone + length es) ++ fetches)) c
    ∙ ap (λ (as' : List Answer). expunges_of_numbers gone ++ (as' ++ fetches)) (announced_so kind rows view count (length gone) (length new) n (gone_count kind rows view gone l) (length_arrivals new (rows_after_uid (last_uid stay) rows) e))
    ∙ ap (λ (as' : List Answer). as' ++ (exists_of_sync rows stay ++ fetches)) l
    ∙ ap (λ (as' : List Answer). expunges_of_sync kind rows view ++ (exists_of_sync rows stay ++ as')) f
