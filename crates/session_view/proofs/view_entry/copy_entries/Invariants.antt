use Rattle.std.proofs.Common.{◌≡◌, ◌++◌}
use Rattle.session_view.proofs.view_entry.copy_entries.Given as goal

abbrev pub invariant-loop-entry : goal.invariant-loop-entry
invariant-loop-entry l = l.copies.items ++ l.entry-iterator ≡ l.view.items
