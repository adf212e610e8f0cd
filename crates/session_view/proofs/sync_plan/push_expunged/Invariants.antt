use Rattle.std.proofs.Common.{◌≡◌, ◌++◌, drop}
use Rattle.session_view.specs.NoteChanges.{expunges_of_numbers}
use Rattle.session_view.proofs.sync_plan.push_expunged.Given as goal

abbrev pub invariant-loop-i : goal.invariant-loop-i
invariant-loop-i l = l.answers.items ≡ l.fn.answers.items ++ expunges_of_numbers (drop l.i l.gone)
