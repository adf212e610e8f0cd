use Rattle.std.proofs.Common.{◌≡◌, ◌++◌, drop}
use Rattle.mailbox_rows.specs.RowViews.{listed_message}
use Rattle.imap_query.specs.FetchCommand.{sections_of_items}
use Rattle.imap_query.proofs.fetch_command.sections.Given as goal

abbrev pub invariant-loop-item : goal.invariant-loop-item
invariant-loop-item l = l.pieces.items ++ sections_of_items (listed_message l.row).text (drop l.item-index l.items) ≡ sections_of_items (listed_message l.row).text l.items
