use Rattle.std.proofs.Common.{◌≡◌, ◌⊎◌, inl, inr, nat_le, Bool, true, List, [], ◌∷◌, ◌++◌, length, refl, sym, ◌∙◌, append_assoc}
use Rattle.std.proofs.lemmas.Bool.{cases_Bool, false≢true}
use Rattle.mailbox_rows.specs.ListedMessage.{ListedMessage}
use Rattle.idle_feed.specs.NotedFeeds.{IsLeftNoted, NotesAllOf}
use Rattle.idle_feed.specs.Feeds.{Pending, pending_after, input_of_restore, no_pending, input_of_note}
use Rattle.idle_feed.specs.declared.feed.TakenNotes.{TakenNotes}
use Rattle.idle_feed.specs.declared.feed.TakenNotes.TheVariants.{Changes, Resync}
use Rattle.session_view.specs.declared.notes.Note.{Note}
use Rattle.session_view.specs.declared.view_entry.ViewEntry.{ViewEntry}

-- one further note
pub missed_stays : (p : Pending) (n : Note) (has_memory : Bool) → p.missed ≡ true → (pending_after p (input_of_note n has_memory)).missed ≡ true
missed_stays p n has_memory m = rw m refl

pub note_step : (p : Pending) (n : Note) (has_memory : Bool) (rest all : List Note) → (p.missed ≡ true) ⊎ (p.notes ++ n ∷ rest ≡ all) → ((pending_after p (input_of_note n has_memory)).missed ≡ true) ⊎ ((pending_after p (input_of_note n has_memory)).notes ++ rest ≡ all)
note_step p n has_memory rest all h =
    elim (cases_Bool p.missed) [
      | inl m ↦ inl (missed_stays p n has_memory m)
      | inr k ↦ elim h [
        | inl m ↦ absurd (false≢true (sym k ∙ m))
        | inr same ↦ elim (cases_Bool has_memory) [
          | inr lacks ↦ inl (rw (k, lacks) refl)
          | inl is ↦ elim (cases_Bool (nat_le (length (p.notes ++ n ∷ [])) 4096)) [
            | inl fits ↦ inr (rw (k, is, fits) (append_assoc p.notes (n ∷ []) rest ∙ same))
            | inr over ↦ inl (rw (k, is, over) refl)
          ]
        ]
      ]
    ]

-- notes that are put back into an empty feed
pub left_is_noted : (taken : TakenNotes) (rows : List ListedMessage) (goal : List ViewEntry) → IsLeftNoted taken rows goal → NotesAllOf (pending_after no_pending (input_of_restore taken true)) rows goal
left_is_noted (Changes notes) rows goal h =
    elim (cases_Bool (nat_le (length notes) 4096)) [ inl fits ↦ inr (rw fits h) | inr over ↦ inl (rw over refl) ]
left_is_noted Resync rows goal h = inl refl
