use Rattle.std.proofs.Common.{◌≡◌, ◌++◌, map, drop}
use Rattle.mailbox_rows.specs.RowViews.{changed_since, owned_message}
use Rattle.mailbox_rows.proofs.listing_rows.slice_changed_rows.Given as goal

abbrev pub invariant-loop-row : goal.invariant-loop-row
invariant-loop-row l = map owned_message l.changed.items ++ changed_since l.modseq (map owned_message (drop l.row-index l.rows)) ≡ changed_since l.modseq (map owned_message l.rows)
