use Rattle.std.proofs.Common.{[], take}
use Rattle.std.specs.List.{list_any}
use Rattle.uid_projection.specs.ChartTable.{origin_at}
use Rattle.uid_projection.specs.TouchedMessages.{AddsUids, names_message}
use Rattle.uid_projection.proofs.touched_messages.uids_of_named_messages.Given as goal

abbrev pub invariant-loop-op : goal.invariant-loop-op
invariant-loop-op l = AddsUids (λ g. list_any (names_message (origin_at l.chart.versions.entries) l.folder g) (take l.op-index l.ops)) l.chart.entries.entries [] l.uids.items
