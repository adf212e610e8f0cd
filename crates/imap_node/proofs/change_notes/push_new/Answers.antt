use Rattle.std.proofs.Common.{◌≡◌, ◌⊎◌, ◌+◌, ◌≤◌, ◌<◌, List, true, inl, inr, arith, sym, subst}
use Rattle.session_view.specs.NoteChanges.{is_noted}
use Rattle.session_view.specs.declared.notes.Note.{Note}
use Rattle.imap_node.proofs.ChangeNotesLemmas.{new_noted}
use Rattle.imap_node.proofs.change_notes.push_new.Goals as goal

pub loop-uid-preserved : goal.loop-uid-preserved
loop-uid-preserved c = λ uid h.
    subst (λ (notes : List Note). (is_noted notes uid ≡ true) ⊎ ((c.loop-uid.uid + 1 ≤ uid) × (uid < c.args.end))) (sym (c.in_ok-push.ensures {u = tt}).items)
    (new_noted c.loop-uid.notes.items c.args.end c.loop-uid.uid uid (c.loop-uid.invariant uid h))

pub returns : goal.returns
returns c = λ uid h.
    elim (c.loop-uid.invariant uid h) [
      | inl t ↦ t
      | inr w ↦ let l = w.0 in let m = w.1 in let f = c.loop-uid-test.false in absurd (omega (arith, l, m, f))
    ]
