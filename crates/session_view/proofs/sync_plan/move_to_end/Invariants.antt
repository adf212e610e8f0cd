use Rattle.std.proofs.Common.{◌≡◌, ◌≤◌, ◌++◌, length}
use Rattle.session_view.proofs.sync_plan.move_to_end.Given as goal

abbrev pub invariant-loop-entry : goal.invariant-loop-entry
invariant-loop-entry l = record {
  items : l.entries.items ++ l.entry-iterator.rest.items ≡ l.fn.entries.items ++ l.fn.arrivals.items;
  room : length l.entry-iterator.rest.items ≤ l.entries.room;
}
