use Rattle.std.proofs.Common.{◌≡◌, ◌++◌, drop}
use Rattle.session_view.specs.NoteChanges.{uids_in}
use Rattle.session_view.proofs.notes.uids_in.Given as goal

abbrev pub invariant-loop-note : goal.invariant-loop-note
invariant-loop-note l = l.uids.items ++ uids_in (drop l.note-index l.notes) ≡ uids_in l.notes
