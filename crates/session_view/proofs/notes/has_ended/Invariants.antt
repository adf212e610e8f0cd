use Rattle.std.proofs.Common.{◌≡◌, drop}
use Rattle.std.specs.List.{list_any}
use Rattle.session_view.specs.NoteChanges.{is_end}
use Rattle.session_view.proofs.notes.has_ended.Given as goal

abbrev pub invariant-loop-note : goal.invariant-loop-note
invariant-loop-note l = list_any is_end (drop l.note-index l.notes) ≡ list_any is_end l.notes
