use Rattle.std.proofs.Common.{◌≡◌, ◌++◌}
use Rattle.session_view.specs.NoteChanges.{uids_of}
use Rattle.session_view.proofs.notes.uids_of.Given as goal

abbrev pub invariant-loop-entry : goal.invariant-loop-entry
invariant-loop-entry l = l.uids.items ++ uids_of l.entry-iterator ≡ uids_of l.view.items
