use Rattle.std.proofs.Common.{◌≡◌, ◌+◌, ◌++◌, drop}
use Rattle.session_view.specs.Sync.{expunges}
use Rattle.session_view.proofs.comparison_sync.push_expunges.Given as goal

abbrev pub invariant-loop-i : goal.invariant-loop-i
invariant-loop-i l =
    l.answers.items ≡ l.fn.answers.items ++ expunges l.rows (l.i + 1) (drop l.i l.view.items)
