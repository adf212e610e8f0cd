use Rattle.std.proofs.Common.{◌≡◌, drop}
use Rattle.session_view.specs.NoteChanges.{without_from}
use Rattle.session_view.proofs.sync_plan.take_all_out.Given as goal

abbrev pub invariant-loop-i : goal.invariant-loop-i
invariant-loop-i l = l.entries.items ≡ without_from (drop l.i l.gone) l.fn.entries.items
