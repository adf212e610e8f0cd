use Rattle.std.proofs.Common.{◌≡◌, ◌⊎◌, inl, inr, ℕ, zero, suc, ◌+◌, Bool, true, false, ◌||◌, List, [], ◌∷◌, ◌++◌, drop, refl, sym, ap, ◌∙◌, append_assoc, append-nil, arith, Option, Some, None, if◌then◌else◌}
use Rattle.std.specs.Prelude.{nat_eq}
use Rattle.std.specs.List.{slice_get}
use Rattle.std.proofs.lemmas.Bool.{cases_Bool}
use Rattle.std.proofs.lemmas.Bool.Decides.{nat_tests}
use Rattle.mailbox_rows.specs.ListedMessage.{ListedMessage}
use Rattle.mailbox_rows.specs.RowViews.{row_of}
use Rattle.session_view.specs.NoteChanges.{NoteAllChanges, flags_at, is_noted, note_names}
use Rattle.session_view.specs.Views.{entries_of, has_uid, same_flags}
use Rattle.session_view.specs.declared.notes.Note.{Note}
use Rattle.session_view.specs.declared.notes.Note.TheVariants.{New}
use Rattle.session_view.specs.declared.view_entry.ViewEntry.{ViewEntry}
use Rattle.session_view.proofs.SyncLemmas.{same_flags_equal}
use Rattle.imap_cases.specs.Differences.{note_by_row, notes_of_entries, notes_of_rows}

-- ---- notes before and after others

or_right : (a b : Bool) → b ≡ true → (a || b) ≡ true
or_right true b h = refl
or_right false b h = h

noted_left : (xs ys : List Note) (uid : ℕ) → is_noted xs uid ≡ true → is_noted (xs ++ ys) uid ≡ true
noted_left [] ys uid h = cc
noted_left (x ∷ xs) ys uid h = elim (cases_Bool (note_names uid x)) [ inl t ↦ rw t refl | inr f ↦ rw f (noted_left xs ys uid (rw f at h)) ]

noted_right : (xs ys : List Note) (uid : ℕ) → is_noted ys uid ≡ true → is_noted (xs ++ ys) uid ≡ true
noted_right [] ys uid h = h
noted_right (x ∷ xs) ys uid h = or_right (note_names uid x) (is_noted (xs ++ ys) uid) (noted_right xs ys uid h)

-- ---- what differs is noted

flags_of_row : (uid : ℕ) (rows : List ListedMessage) (row : ListedMessage) → row_of uid rows ≡ Some row → flags_at uid (entries_of rows) ≡ Some row.flags
flags_of_row uid [] row h = cc
flags_of_row uid (x ∷ rows) row h =
    elim (cases_Bool (nat_eq x.uid uid)) [
      | inl t ↦ let here : Some x ≡ Some row = rw t at h in let same : x ≡ row = cc in rw t (ap (λ (y : ListedMessage). Some y.flags) same)
      | inr f ↦ rw f (flags_of_row uid rows row (rw f at h))
    ]

module _ (rows : List ListedMessage) where
  own_noted : (uid : ℕ) (e : ViewEntry) (es : List ViewEntry) (row : Option ListedMessage) → row ≡ row_of e.uid rows → nat_eq e.uid uid ≡ true
      → (flags_at uid (e ∷ es) ≡ flags_at uid (entries_of rows)) ⊎ (is_noted (note_by_row e row ++ notes_of_entries rows es) uid ≡ true)
  own_noted uid e es None q t = inr (rw t refl)
  own_noted uid e es (Some row) q t =
      elim (cases_Bool (same_flags e.flags row.flags)) [
        | inl s ↦
            let same : e.uid ≡ uid = grind (arith, nat_tests) in
            inl (rw t (ap Some (same_flags_equal e.flags row.flags s) ∙ sym (flags_of_row uid rows row (ap (λ u. row_of u rows) (sym same) ∙ sym q))))
        | inr d ↦ inr (rw (d, t) refl)
      ]

  entry_noted : (uid : ℕ) (es : List ViewEntry) → has_uid es uid ≡ true → (flags_at uid es ≡ flags_at uid (entries_of rows)) ⊎ (is_noted (notes_of_entries rows es) uid ≡ true)
  entry_noted uid [] h = cc
  entry_noted uid (e ∷ es) h =
      elim (cases_Bool (nat_eq e.uid uid)) [
        | inl t ↦ own_noted uid e es (row_of e.uid rows) refl t
        | inr f ↦ elim (entry_noted uid es (rw f at h)) [
          | inl same ↦ inl (rw f same)
          | inr noted ↦ inr (noted_right (note_by_row e (row_of e.uid rows)) (notes_of_entries rows es) uid noted)
        ]
      ]

row_noted : (view : List ViewEntry) (uid : ℕ) (rows : List ListedMessage) → has_uid view uid ≡ false → (flags_at uid (entries_of rows) ≡ None) ⊎ (is_noted (notes_of_rows view rows) uid ≡ true)
row_noted view uid [] h = inl refl
row_noted view uid (row ∷ rows) h =
    elim (cases_Bool (nat_eq row.uid uid)) [
      | inl t ↦
          let same : row.uid ≡ uid = grind (arith, nat_tests) in
          let new : has_uid view row.uid ≡ false = ap (has_uid view) same ∙ h in
          inr (rw (new, t) refl)
      | inr f ↦ elim (row_noted view uid rows h) [
        | inl none ↦ inl (rw f none)
        | inr noted ↦ inr (noted_right (if has_uid view row.uid then [] else New row.uid ∷ []) (notes_of_rows view rows) uid noted)
      ]
    ]

no_flags : (uid : ℕ) (es : List ViewEntry) → has_uid es uid ≡ false → flags_at uid es ≡ None
no_flags uid [] h = refl
no_flags uid (e ∷ es) h = elim (cases_Bool (nat_eq e.uid uid)) [ inl t ↦ let no : true ≡ false = rw t at h in cc | inr f ↦ rw f (no_flags uid es (rw f at h)) ]

pub all_noted : (rows : List ListedMessage) (view : List ViewEntry) → NoteAllChanges (notes_of_entries rows view ++ notes_of_rows view rows) rows view
all_noted rows view uid =
    elim (cases_Bool (has_uid view uid)) [
      | inl has ↦ elim (entry_noted rows uid view has) [ inl same ↦ inl same | inr noted ↦ inr (noted_left (notes_of_entries rows view) (notes_of_rows view rows) uid noted) ]
      | inr lacks ↦ elim (row_noted view uid rows lacks) [
        | inl none ↦ inl (no_flags uid view lacks ∙ sym none)
        | inr noted ↦ inr (noted_right (notes_of_entries rows view) (notes_of_rows view rows) uid noted)
      ]
    ]

-- ---- row by row

drop_given : (rows : List ListedMessage) (n : ℕ) (row : ListedMessage) → Some row ≡ slice_get rows n → drop n rows ≡ row ∷ drop (suc n) rows
drop_given [] n row h = cc
drop_given (r ∷ rows) zero row h = let k : row ≡ r = cc in ap (λ (x : ListedMessage). x ∷ rows) (sym k)
drop_given (r ∷ rows) (suc n) row h = drop_given rows n row h

drop_past : (rows : List ListedMessage) (n : ℕ) → None ≡ slice_get rows n → drop n rows ≡ []
drop_past [] zero h = refl
drop_past [] (suc n) h = refl
drop_past (r ∷ rows) zero h = cc
drop_past (r ∷ rows) (suc n) h = drop_past rows n h

pub next_row : (view : List ViewEntry) (rows : List ListedMessage) (place : ℕ) (row : ListedMessage) (old new : List Note) → Some row ≡ slice_get rows place
    → new ≡ old ++ (if has_uid view row.uid then [] else New row.uid ∷ []) → new ++ notes_of_rows view (drop (place + 1) rows) ≡ old ++ notes_of_rows view (drop place rows)
next_row view rows place row old new h n =
    let k : place + 1 ≡ suc place = omega arith in
    let note = if has_uid view row.uid then [] else New row.uid ∷ [] in
    ap (λ (xs : List Note). xs ++ notes_of_rows view (drop (place + 1) rows)) n
    ∙ append_assoc old note (notes_of_rows view (drop (place + 1) rows))
    ∙ ap (λ (i : ℕ). old ++ (note ++ notes_of_rows view (drop i rows))) k
    ∙ sym (ap (λ (rs : List ListedMessage). old ++ notes_of_rows view rs) (drop_given rows place row h))

pub no_more_rows : (view : List ViewEntry) (rows : List ListedMessage) (place : ℕ) (notes : List Note) → drop place rows ≡ [] → notes ≡ notes ++ notes_of_rows view (drop place rows)
no_more_rows view rows place notes e = sym (append-nil notes) ∙ ap (λ (rs : List ListedMessage). notes ++ notes_of_rows view rs) (sym e)

pub past_rows : (view : List ViewEntry) (rows : List ListedMessage) (place : ℕ) (notes : List Note) → None ≡ slice_get rows place → notes ≡ notes ++ notes_of_rows view (drop place rows)
past_rows view rows place notes h = no_more_rows view rows place notes (drop_past rows place h)
