use Rattle.std.proofs.Common.{◌↔◌}
use Rattle.session_view.specs.Views.{AreRising}
use Rattle.session_view.proofs.view_entry.are_rising.Given as goal

abbrev pub invariant-loop-entry : goal.invariant-loop-entry
invariant-loop-entry l = AreRising l.low l.entry-iterator ↔ AreRising 1 l.entries.items
