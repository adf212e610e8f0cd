use Rattle.std.proofs.Common.{◌≡◌, ◌++◌, drop}
use Rattle.session_view.specs.NoteChanges.{all_silent_notes}
use Rattle.session_view.proofs.preset_flags.push_flag_notes.Given as goal

abbrev pub invariant-loop-silent : goal.invariant-loop-silent
invariant-loop-silent l = l.notes.items ++ all_silent_notes l.view.items (drop l.silent-index l.silents) ≡ l.fn.notes.items ++ all_silent_notes l.view.items l.silents
