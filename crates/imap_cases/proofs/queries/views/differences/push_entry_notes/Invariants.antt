use Rattle.std.proofs.Common.{◌≡◌, ◌++◌}
use Rattle.imap_cases.specs.Differences.{notes_of_entries}
use Rattle.imap_cases.proofs.queries.views.differences.push_entry_notes.Given as goal

abbrev pub invariant-loop-entry : goal.invariant-loop-entry
invariant-loop-entry l = l.notes.items ++ notes_of_entries l.rows l.entry-iterator ≡ l.fn.notes.items ++ notes_of_entries l.rows l.view.items
