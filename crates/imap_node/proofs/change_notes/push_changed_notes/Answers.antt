use Rattle.std.proofs.Common.{◌≡◌, ◌⊎◌, ◌+◌, List, true, drop, get_or, sym, subst}
use Rattle.merge_laws.specs.Orders.{IsIn}
use Rattle.session_view.specs.NoteChanges.{is_noted}
use Rattle.session_view.specs.declared.notes.Note.{Note}
use Rattle.session_view.specs.declared.notes.Note.TheVariants.{Changed}
use Rattle.imap_node.proofs.ChangeNotesLemmas.{noted_or_dropped, names_changed, noted_past_end}
use Rattle.imap_node.proofs.change_notes.push_changed_notes.Goals as goal

pub loop-uid-preserved : goal.loop-uid-preserved
loop-uid-preserved c = λ uid h.
    subst (λ (notes : List Note). (is_noted notes uid ≡ true) ⊎ IsIn uid (drop (c.loop-uid.uid-index + 1) c.args.uids.now)) (sym (c.in_ok-push.ensures {u = tt}).items)
    (noted_or_dropped c.loop-uid.notes.items (Changed (get_or c.args.uids.now c.loop-uid.uid-index 0)) c.args.uids.now c.loop-uid.uid-index 0 c.loop-uid-test.true (names_changed (get_or c.args.uids.now c.loop-uid.uid-index 0)) uid (c.loop-uid.invariant uid h))

pub returns : goal.returns
returns c = λ uid h. noted_past_end c.loop-uid.notes.items c.args.uids.now c.loop-uid.uid-index uid c.loop-uid-test.false (c.loop-uid.invariant uid h)
