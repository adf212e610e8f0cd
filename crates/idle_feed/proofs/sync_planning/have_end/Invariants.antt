use Rattle.std.proofs.Common.{◌≡◌, drop}
use Rattle.std.specs.List.{list_any}
use Rattle.session_view.specs.NoteChanges.{is_end}
use Rattle.idle_feed.proofs.sync_planning.have_end.Given as goal

abbrev pub invariant-loop-note : goal.invariant-loop-note
invariant-loop-note l = list_any is_end (drop l.note-index l.notes) ≡ list_any is_end l.notes
