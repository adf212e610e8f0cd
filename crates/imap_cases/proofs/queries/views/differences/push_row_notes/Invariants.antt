use Rattle.std.proofs.Common.{◌≡◌, ◌++◌, drop}
use Rattle.imap_cases.specs.Differences.{notes_of_rows}
use Rattle.imap_cases.proofs.queries.views.differences.push_row_notes.Given as goal

abbrev pub invariant-loop-place : goal.invariant-loop-place
invariant-loop-place l = l.notes.items ++ notes_of_rows l.view.items (drop l.place l.rows) ≡ l.fn.notes.items ++ notes_of_rows l.view.items l.rows
