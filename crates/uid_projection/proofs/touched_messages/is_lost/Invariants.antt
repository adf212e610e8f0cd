use Rattle.std.proofs.Common.{◌≡◌, false, take}
use Rattle.uid_projection.specs.EntryMoves.{loses}
use Rattle.uid_projection.specs.ChartTable.{origin_at}
use Rattle.uid_projection.proofs.touched_messages.is_lost.Given as goal

abbrev pub invariant-loop-id : goal.invariant-loop-id
invariant-loop-id l = loses (origin_at l.chart.versions.entries) (take l.id-index l.removed) l.origin ≡ false
