use Rattle.std.proofs.Common.{◌≡◌, ◌++◌, map, drop}
use Rattle.mailbox_rows.specs.RowViews.{owned_message}
use Rattle.mailbox_rows.specs.MessageData.{rows_by}
use Rattle.mailbox_rows.proofs.window.owned_rows.Given as goal

abbrev pub invariant-loop-entry : goal.invariant-loop-entry
invariant-loop-entry l = map owned_message l.rows.items ++ rows_by l.fresh.entries l.mailbox (drop l.entry-index l.entries) ≡ rows_by l.fresh.entries l.mailbox l.entries
