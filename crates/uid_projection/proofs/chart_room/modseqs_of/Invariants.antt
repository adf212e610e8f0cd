use Rattle.std.proofs.Common.{◌≡◌, take}
use Rattle.uid_projection.specs.ChartTable.{modseqs_of}
use Rattle.uid_projection.proofs.chart_room.modseqs_of.Given as goal

abbrev pub invariant-loop-op : goal.invariant-loop-op
invariant-loop-op l = l.count ≡ modseqs_of (take l.op-index l.ops)
