use Rattle.std.proofs.Common.{◌≡◌, ◌≤◌, ◌+◌, ◌++◌, length}
use Rattle.session_view.specs.Sync.{fetches_of_sync, staying_entries}
use Rattle.session_view.proofs.comparison_sync.push_changes.Given as goal

abbrev pub invariant-loop-entry : goal.invariant-loop-entry
invariant-loop-entry l =
    record {
      number : l.number + length l.entry-iterator ≤ length l.view.items;
      answers : l.answers.items ++ fetches_of_sync l.modseq l.rows (l.number + 1) (staying_entries l.kind l.rows l.entry-iterator) ≡ l.fn.answers.items ++ fetches_of_sync l.modseq l.rows 1 (staying_entries l.kind l.rows l.view.items);
    }
