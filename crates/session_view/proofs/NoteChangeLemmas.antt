use Rattle.std.proofs.Common.{◌≡◌, ◌⊎◌, inl, inr, ℕ, ◌≤◌, Bool, true, false, ◌||◌, List, [], ◌∷◌, ◌++◌, map, refl, sym, ap, ◌-◌, if◌then◌else◌, ◌∙◌, arith, Option, Some, None}
use Rattle.std.specs.Prelude.{nat_eq, nat_lt}
use Rattle.std.proofs.lemmas.Bool.{cases_Bool}
use Rattle.std.proofs.lemmas.Bool.Decides.{nat_tests}
use Rattle.imap_types.specs.declared.flags.Flags.{Flags}
use Rattle.mailbox_rows.specs.ListedMessage.{ListedMessage}
use Rattle.mailbox_rows.specs.RowViews.{AreRisingRows, rows_after_uid, row_of}
use Rattle.session_view.specs.NoteChanges.{NoteAllChanges, flags_at, gone_notes, is_noted, notes_left_by_sync, note_names, named_by_silent, silent_notes}
use Rattle.session_view.specs.Replay.{with_flags_at}
use Rattle.session_view.specs.Sync.{is_listed, refreshed_entry, refreshed_entry_by, view_after_sync}
use Rattle.session_view.specs.Views.{AreRising, LacksOnlyLaterRows, entries_of, has_uid, last_uid}
use Rattle.session_view.specs.declared.notes.Note.{Note}
use Rattle.session_view.specs.declared.notes.Note.TheVariants.{Ended, Gone}
use Rattle.session_view.specs.declared.view_entry.ViewEntry.{ViewEntry}
use Rattle.session_view.specs.declared.view_entry.SyncKind.TheVariants.{Full, Partial}
use Rattle.session_view.proofs.SyncLemmas.{full_shows}

-- ---- further notes

or-right : (a b : Bool) → b ≡ true → (a || b) ≡ true
or-right true b h = refl
or-right false b h = h

noted_left : (xs ys : List Note) (uid : ℕ) → is_noted xs uid ≡ true → is_noted (xs ++ ys) uid ≡ true
noted_left [] ys uid h = cc
noted_left (x ∷ xs) ys uid h = elim (cases_Bool (note_names uid x)) [ inl t ↦ rw t refl | inr f ↦ rw f (noted_left xs ys uid (rw f at h)) ]

noted_right : (xs ys : List Note) (uid : ℕ) → is_noted ys uid ≡ true → is_noted (xs ++ ys) uid ≡ true
noted_right [] ys uid h = h
noted_right (x ∷ xs) ys uid h = or-right (note_names uid x) (is_noted (xs ++ ys) uid) (noted_right xs ys uid h)

-- the listing changes, and what differs between the two listings is noted too
pub new_listing : (notes more : List Note) (before after : List ListedMessage) (view : List ViewEntry) → NoteAllChanges notes before view → NoteAllChanges more after (entries_of before) → NoteAllChanges (notes ++ more) after view
new_listing notes more before after view h k uid =
    elim (h uid) [
      | inr t ↦ inr (noted_left notes more uid t)
      | inl same ↦ elim (k uid) [ inr t ↦ inr (noted_right notes more uid t) | inl still ↦ inl (same ∙ still) ]
    ]

pub ends : (rows : List ListedMessage) (view : List ViewEntry) → NoteAllChanges (Ended ∷ []) rows view
ends rows view uid = inr refl

pub shown : (rows : List ListedMessage) (view : List ViewEntry) → view ≡ entries_of rows → NoteAllChanges [] rows view
shown rows view h uid = inl (ap (flags_at uid) h)

-- ---- syncs

pub full_noted : (rows : List ListedMessage) (view : List ViewEntry) → AreRisingRows 1 rows → AreRising 1 view → LacksOnlyLaterRows view rows → NoteAllChanges (notes_left_by_sync Full rows view) rows (view_after_sync Full rows view)
full_noted rows view r v k = shown rows (view_after_sync Full rows view) (full_shows rows view r v k)

-- the messages of the view after a partial sync
refreshed_uid : (e : ViewEntry) (row : Option ListedMessage) → (refreshed_entry_by e row).uid ≡ e.uid
refreshed_uid e None = refl
refreshed_uid e (Some row) = refl

flags_of_row : (uid : ℕ) (rows : List ListedMessage) (row : ListedMessage) → row_of uid rows ≡ Some row → flags_at uid (entries_of rows) ≡ Some row.flags
flags_of_row uid [] row h = cc
flags_of_row uid (x ∷ rows) row h =
    elim (cases_Bool (nat_eq x.uid uid)) [
      | inl t ↦ let here : Some x ≡ Some row = rw t at h in let same : x ≡ row = cc in rw t (ap (λ (y : ListedMessage). Some y.flags) same)
      | inr f ↦ rw f (flags_of_row uid rows row (rw f at h))
    ]

-- a message of the view is shown as listed, or it is gone
module _ (rows : List ListedMessage) where
  one_staying : (uid : ℕ) (e : ViewEntry) (es back : List ViewEntry) (row : Option ListedMessage) → row ≡ row_of e.uid rows → nat_eq e.uid uid ≡ true
      → (flags_at uid (refreshed_entry_by e row ∷ (map (refreshed_entry rows) es ++ back)) ≡ flags_at uid (entries_of rows)) ⊎ (row ≡ None)
  one_staying uid e es back None q t = inr refl
  one_staying uid e es back (Some row) q t =
      let same : e.uid ≡ uid = grind (arith, nat_tests) in
      inl (rw t (sym (flags_of_row uid rows row (ap (λ u. row_of u rows) (sym same) ∙ sym q))))

  noted_gone : (uid : ℕ) (e : ViewEntry) (es : List ViewEntry) → nat_eq e.uid uid ≡ true → row_of e.uid rows ≡ None → is_noted (gone_notes rows (e ∷ es)) uid ≡ true
  noted_gone uid e es t h = let out : is_listed rows e ≡ false = rw h refl in rw (out, t) refl

  noted_later : (uid : ℕ) (e : ViewEntry) (es : List ViewEntry) → is_noted (gone_notes rows es) uid ≡ true → is_noted (gone_notes rows (e ∷ es)) uid ≡ true
  noted_later uid e es h = noted_right (if is_listed rows e then [] else Gone e.uid ∷ []) (gone_notes rows es) uid h

  staying_or_gone : (uid : ℕ) (es back : List ViewEntry) → has_uid es uid ≡ true
      → (flags_at uid (map (refreshed_entry rows) es ++ back) ≡ flags_at uid (entries_of rows)) ⊎ (is_noted (gone_notes rows es) uid ≡ true)
  staying_or_gone uid [] back h = cc
  staying_or_gone uid (e ∷ es) back h =
      elim (cases_Bool (nat_eq e.uid uid)) [
        | inl t ↦ elim (one_staying uid e es back (row_of e.uid rows) refl t) [ inl same ↦ inl same | inr gone ↦ inr (noted_gone uid e es t gone) ]
        | inr f ↦
            let other : nat_eq (refreshed_entry rows e).uid uid ≡ false = ap (λ u. nat_eq u uid) (refreshed_uid e (row_of e.uid rows)) ∙ f in
            elim (staying_or_gone uid es back (rw f at h)) [
              | inl same ↦ inl (rw other same)
              | inr noted ↦ inr (noted_later uid e es noted)
            ]
      ]

  -- messages that the view lacked
  not_staying : (uid : ℕ) (es back : List ViewEntry) → has_uid es uid ≡ false → flags_at uid (map (refreshed_entry rows) es ++ back) ≡ flags_at uid back
  not_staying uid [] back h = refl
  not_staying uid (e ∷ es) back h =
      elim (cases_Bool (nat_eq e.uid uid)) [
        | inl t ↦ let no : true ≡ false = rw t at h in cc
        | inr f ↦
            let other : nat_eq (refreshed_entry rows e).uid uid ≡ false = ap (λ u. nat_eq u uid) (refreshed_uid e (row_of e.uid rows)) ∙ f in
            rw other (not_staying uid es back (rw f at h))
      ]

-- all messages that the view lacks arrive
arrivals_flags : (uid low : ℕ) (view : List ViewEntry) (rows : List ListedMessage) → low ≡ last_uid view → has_uid view uid ≡ false → LacksOnlyLaterRows view rows → flags_at uid (entries_of (rows_after_uid low rows)) ≡ flags_at uid (entries_of rows)
arrivals_flags uid low view [] q n k = refl
arrivals_flags uid low view (row ∷ rows) q n k =
    elim (cases_Bool (nat_lt low row.uid)) [
      | inl above ↦ rw above (ap (λ (o : Option Flags). if nat_eq row.uid uid then Some row.flags else o) (arrivals_flags uid low view rows q n k.1))
      | inr not ↦ elim (cases_Bool (nat_eq row.uid uid)) [
        | inr other ↦ rw (not, other) (arrivals_flags uid low view rows q n k.1)
        | inl own ↦
            let same : row.uid ≡ uid = grind (arith, nat_tests) in
            elim k.0 [
              | inl has ↦ let no : false ≡ true = sym n ∙ ap (has_uid view) (sym same) ∙ has in cc
              | inr above ↦ absurd (let less : row.uid ≤ low = grind (arith, nat_tests) in omega (arith, less, above, q))
            ]
      ]
    ]

pub partial_noted : (rows : List ListedMessage) (view : List ViewEntry) → LacksOnlyLaterRows view rows → NoteAllChanges (notes_left_by_sync Partial rows view) rows (view_after_sync Partial rows view)
partial_noted rows view k uid =
    elim (cases_Bool (has_uid view uid)) [
      | inl has ↦ staying_or_gone rows uid view (entries_of (rows_after_uid (last_uid view) rows)) has
      | inr not ↦ inl (not_staying rows uid view (entries_of (rows_after_uid (last_uid view) rows)) not ∙ arrivals_flags uid (last_uid view) view rows refl not k)
    ]

-- ---- flags that a session set or that were reported to it

other_stay : (uid : ℕ) (es : List ViewEntry) (k : ℕ) (flags : Flags) → named_by_silent uid es k ≡ false → flags_at uid (with_flags_at es k flags) ≡ flags_at uid es
other_stay uid [] k flags h = refl
other_stay uid (e ∷ es) k flags h =
    elim (cases_Bool (nat_eq k 1)) [
      | inl one ↦ let f : nat_eq e.uid uid ≡ false = rw one at h in rw (one, f) refl
      | inr more ↦ rw more (ap (λ (o : Option Flags). if nat_eq e.uid uid then Some e.flags else o) (other_stay uid es (k - 1) flags (rw more at h)))
    ]

noted_silent : (uid : ℕ) (es : List ViewEntry) (k : ℕ) → is_noted (silent_notes es k) uid ≡ named_by_silent uid es k
noted_silent uid [] k = refl
noted_silent uid (e ∷ es) k =
    elim (cases_Bool (nat_eq k 1)) [
      | inl one ↦ elim (cases_Bool (nat_eq e.uid uid)) [ inl t ↦ rw (one, t) refl | inr f ↦ rw (one, f) refl ]
      | inr more ↦ rw more (noted_silent uid es (k - 1))
    ]

-- one message's flags are set, and it is noted
pub flags_noted : (notes : List Note) (rows : List ListedMessage) (view : List ViewEntry) (k : ℕ) (flags : Flags) → NoteAllChanges notes rows view → NoteAllChanges (notes ++ silent_notes view k) rows (with_flags_at view k flags)
flags_noted notes rows view k flags h uid =
    elim (cases_Bool (named_by_silent uid view k)) [
      | inl named ↦ inr (noted_right notes (silent_notes view k) uid (noted_silent uid view k ∙ named))
      | inr other ↦ elim (h uid) [
        | inl same ↦ inl (other_stay uid view k flags other ∙ same)
        | inr noted ↦ inr (noted_left notes (silent_notes view k) uid noted)
      ]
    ]
