use Rattle.std.proofs.Common.{◌≡◌, ◌++◌}
use Rattle.session_view.specs.Sync.{refreshed_entries}
use Rattle.session_view.proofs.comparison_sync.refreshed_entries.Given as goal

abbrev pub invariant-loop-entry : goal.invariant-loop-entry
invariant-loop-entry l =
    l.staying.items ++ refreshed_entries l.kind l.rows l.entry-iterator ≡ refreshed_entries l.kind l.rows l.view.items
