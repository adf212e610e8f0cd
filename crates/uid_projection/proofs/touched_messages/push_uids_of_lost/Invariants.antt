use Rattle.std.proofs.Common.{take}
use Rattle.uid_projection.specs.EntryMoves.{loses}
use Rattle.uid_projection.specs.ChartTable.{origin_at}
use Rattle.uid_projection.specs.TouchedMessages.{AddsUids}
use Rattle.uid_projection.proofs.touched_messages.push_uids_of_lost.Given as goal

abbrev pub invariant-loop-id : goal.invariant-loop-id
invariant-loop-id l = AddsUids (loses (origin_at l.chart.versions.entries) (take l.id-index l.removed)) l.chart.entries.entries l.fn.uids.items l.uids.items
