use Rattle.std.proofs.Common.{◌≡◌, ◌⊎◌, inl, inr, ℕ, ◌+◌, ◌<◌, ◌≤◌, Bool, true, false, List, [], ◌∷◌, ◌++◌, length, map, refl, sym, ap, ◌∙◌, arith, append-nil, Option, Some, None, eq-eqb}
use Rattle.std.specs.Prelude.{nat_eq, nat_lt}
use Rattle.std.specs.List.{filter}
use Rattle.std.proofs.lemmas.Bool.{cases_Bool}
use Rattle.std.proofs.lemmas.Bool.Decides.{nat_tests}
use Rattle.imap_answers.specs.declared.answer.Answer.{Answer}
use Rattle.imap_types.specs.declared.flags.Flags.{Flags}
use Rattle.mailbox_rows.specs.ListedMessage.{ListedMessage}
use Rattle.mailbox_rows.specs.RowViews.{rows_after_uid, row_of}
use Rattle.session_view.specs.NoteChanges.{NoteAllChanges, flags_at}
use Rattle.session_view.specs.Notes.{NameAllDifferences, IsSame, is_named}
use Rattle.session_view.specs.Sync.{exists_of_sync, fetches_of_sync, expunges, is_listed, expunges_of_sync, refreshed_entry, staying_entries, sync_answers, view_after_sync}
use Rattle.session_view.specs.Views.{AreRising, entries_of, last_from, last_uid}
use Rattle.session_view.specs.declared.view_entry.ViewEntry.{ViewEntry}
use Rattle.session_view.specs.declared.view_entry.SyncKind.{SyncKind}
use Rattle.session_view.specs.declared.view_entry.SyncKind.TheVariants.{Full, Partial}
use Rattle.session_view.proofs.ChangeLemmas.{covers_noted}
use Rattle.session_view.proofs.NoteLemmas.{no_change, no_loss}
use Rattle.session_view.proofs.SyncLemmas.{rising_count, same_flags_equal}

-- ---- nothing arrived

-- a view shows nothing of a message above its last one
none_above : (b uid : ℕ) (es : List ViewEntry) → AreRising (b + 1) es → last_from b es < uid → flags_at uid es ≡ None
none_above b uid [] r l = refl
none_above b uid (e ∷ es) r l =
    let up : e.uid + length es ≤ last_from e.uid es = rising_count e.uid es r.1 in
    elim (cases_Bool (nat_eq e.uid uid)) [
      | inl t ↦ absurd (grind (arith, nat_tests))
      | inr f ↦ rw f (none_above e.uid uid es r.1 l)
    ]

-- a listing whose view entries have no UID above this one has no rows above it
none_beyond : (n : ℕ) (rows : List ListedMessage) → ((uid : ℕ) → n < uid → flags_at uid (entries_of rows) ≡ None) → rows_after_uid n rows ≡ []
none_beyond n [] h = refl
none_beyond n (row ∷ rows) h =
    elim (cases_Bool (nat_lt n row.uid)) [
      | inl t ↦
          let l : n < row.uid = grind (arith, nat_tests) in
          let own : flags_at row.uid (entries_of (row ∷ rows)) ≡ Some row.flags = rw (eq-eqb row.uid row.uid refl) refl in
          let no : ◌≡◌ {A = Option Flags} (Some row.flags) None = sym own ∙ h row.uid l in
          cc
      | inr f ↦ rw f (none_beyond n rows (λ uid l.
          let none : flags_at uid (entries_of (row ∷ rows)) ≡ None = h uid l in
          elim (cases_Bool (nat_eq row.uid uid)) [
            | inl t ↦ let no : ◌≡◌ {A = Option Flags} (Some row.flags) None = rw t at none in cc
            | inr g ↦ rw g at none
          ]))
    ]

-- ---- no message is gone or changed

module _ (rows : List ListedMessage) where
  all_listed : (es : List ViewEntry) → NameAllDifferences [] rows es → filter (is_listed rows) es ≡ es
  all_listed [] h = refl
  all_listed (e ∷ es) h =
      elim h.0 [
        | inl named ↦ let no : ◌≡◌ {A = Bool} false true = named in cc
        | inr s ↦ rw (s.1) (ap (λ (es' : List ViewEntry). e ∷ es') (all_listed es h.1))
      ]

  all_stay : (kind : SyncKind) (es : List ViewEntry) → NameAllDifferences [] rows es → staying_entries kind rows es ≡ es
  all_stay Full es h = all_listed es h
  all_stay Partial es h = refl

  no_losses_from : (n : ℕ) (es : List ViewEntry) → NameAllDifferences [] rows es → expunges rows n es ≡ []
  no_losses_from n [] h = refl
  no_losses_from n (e ∷ es) h =
      elim h.0 [
        | inl named ↦ let no : ◌≡◌ {A = Bool} false true = named in cc
        | inr s ↦ rw (no_losses_from (n + 1) es h.1) (no_loss rows n e s)
      ]

  no_losses : (kind : SyncKind) (es : List ViewEntry) → NameAllDifferences [] rows es → expunges_of_sync kind rows es ≡ []
  no_losses Full es h = no_losses_from 1 es h
  no_losses Partial es h = refl

  no_changes : (modseq : Bool) (n : ℕ) (es : List ViewEntry) → NameAllDifferences [] rows es → fetches_of_sync modseq rows n es ≡ []
  no_changes modseq n [] h = refl
  no_changes modseq n (e ∷ es) h =
      elim h.0 [
        | inl named ↦ let no : ◌≡◌ {A = Bool} false true = named in cc
        | inr s ↦ rw (no_change modseq rows n e s) (no_changes modseq (n + 1) es h.1)
      ]

  all_fresh : (es : List ViewEntry) → NameAllDifferences [] rows es → map (refreshed_entry rows) es ≡ es
  all_fresh [] h = refl
  all_fresh (e ∷ es) h =
      elim h.0 [
        | inl named ↦ let no : ◌≡◌ {A = Bool} false true = named in cc
        | inr s ↦
            let same : s.0.flags ≡ e.flags = sym (same_flags_equal e.flags s.0.flags s.2) in
            rw (s.1, same) (ap (λ (es' : List ViewEntry). e ∷ es') (all_fresh es h.1))
      ]

-- ---- views that show what is listed

pub covered : (rows : List ListedMessage) (view : List ViewEntry) → AreRising 1 view → NoteAllChanges [] rows view → NameAllDifferences [] rows view
covered rows view r h = covers_noted [] [] rows view r refl (λ uid. refl) h

pub no_new_rows : (rows : List ListedMessage) (view : List ViewEntry) → AreRising 1 view → NoteAllChanges [] rows view → rows_after_uid (last_uid view) rows ≡ []
no_new_rows rows view r h =
    none_beyond (last_uid view) rows (λ uid l. elim (h uid) [
      | inl same ↦ sym same ∙ none_above 0 uid view r l
      | inr noted ↦ let no : ◌≡◌ {A = Bool} false true = noted in cc
    ])

no_arrivals : (rows : List ListedMessage) (view : List ViewEntry) → rows_after_uid (last_uid view) rows ≡ [] → exists_of_sync rows view ≡ []
no_arrivals rows view h =
    let same : nat_lt (length view) (length view + 0) ≡ false = grind (arith, nat_tests) in
    rw (h, same) refl

pub nothing_sent : (kind : SyncKind) (modseq : Bool) (rows : List ListedMessage) (view : List ViewEntry) → AreRising 1 view → NoteAllChanges [] rows view → sync_answers kind modseq rows view ≡ []
nothing_sent kind modseq rows view r h =
    let c = covered rows view r h in
    rw (no_losses rows kind view c, all_stay rows kind view c, no_arrivals rows view (no_new_rows rows view r h), no_changes rows modseq 1 view c) refl

pub view_stays : (kind : SyncKind) (rows : List ListedMessage) (view : List ViewEntry) → AreRising 1 view → NoteAllChanges [] rows view → view_after_sync kind rows view ≡ view
view_stays kind rows view r h =
    let c = covered rows view r h in
    rw (all_stay rows kind view c, no_new_rows rows view r h, all_fresh rows view c) (append-nil view)
