-- What sessions must still be sent after operations, given their change notes.
use Rattle.std.proofs.Common.{◌≡◌, inl, inr, ℕ, true, false, List, [], ◌∷◌, ◌++◌, Some, refl, sym, ap, ◌∙◌, subst}
use Rattle.std.specs.Prelude.{bytes_eq}
use Rattle.std.proofs.lemmas.Bool.{cases_Bool, false≢true}
use Rattle.crdt_ops.specs.declared.op.Op.{Op}
use Rattle.idle_feed.specs.Feeds.{FeedState, Pending}
use Rattle.imap_node.specs.SessionFeeds.{AreAllNoted, MailboxNotes, IsCurrent, AreChangeNotes, is_named, pending_at}
use Rattle.imap_node.specs.Replays.{view_at}
use Rattle.imap_node.specs.Sessions.{Places}
use Rattle.session_view.specs.NoteChanges.{is_noted}
use Rattle.session_view.specs.ViewState.{ViewState}
use Rattle.session_view.specs.declared.notes.Note.{Note}
use Rattle.uid_projection.specs.declared.first_numbers.Counters.{Counters}

pub named_append : (folders more : List MailboxNotes) (name : List ℕ) → is_named folders name ≡ true → is_named (folders ++ more) name ≡ true
named_append [] more name h = absurd (false≢true h)
named_append (folder ∷ folders) more name h =
    elim (cases_Bool (bytes_eq folder.name name)) [
      | inl t ↦ rw t refl
      | inr f ↦ rw f (named_append folders more name (rw f at h))
    ]

-- without operations there is nothing to be noted
pub no_change_notes : (start : Counters) (list : List Op) → AreChangeNotes start list list []
no_change_notes start list = λ name uidvalidity uid. inl refl

-- ---- a session with nothing noted

pub current_by_feed : (start : Counters) (ops : List Op) (places : Places) (feeds : List FeedState) (n : ℕ) (p : Pending) (view : ViewState) → AreAllNoted start ops places feeds → p ≡ pending_at feeds n → p.missed ≡ false → p.notes ≡ [] → view_at places n ≡ Some view → IsCurrent start ops view
current_by_feed start ops places feeds n p view noted e m o v uid =
    elim (noted n view v) [
      | inl t ↦ absurd (false≢true (sym m ∙ ap (λ (q : Pending). q.missed) e ∙ t))
      | inr note_names ↦ elim (note_names uid) [
        | inl same ↦ same
        | inr in_notes ↦ absurd (false≢true (subst (λ (notes : List Note). is_noted notes uid ≡ true) (sym (ap (λ (q : Pending). q.notes) e) ∙ o) in_notes))
      ]
    ]
