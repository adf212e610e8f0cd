use Rattle.std.proofs.Common.{◌≡◌, ℕ, true, List, length, take}
use Rattle.merge_laws.specs.Orders.{IsIn}
use Rattle.crdt_ops.specs.declared.op.Op.{Op}
use Rattle.crdt_ops.specs.Tags.{name_of}
use Rattle.uid_projection.specs.UidsAndModSeqs.{kind_names_folder}
use Rattle.uid_projection.specs.EntryMoves.{added_origin}
use Rattle.uid_projection.specs.ChartTable.{HasRooms, IsTable}
use Rattle.uid_projection.proofs.chart_room.make_rooms.Given as goal

abbrev pub invariant-loop-op : goal.invariant-loop-op
invariant-loop-op l = record {
  table : (list : List Op) (k : ℕ) → IsTable l.start list k l.fn.charts.entries → IsTable l.start list k l.charts.entries;
  done : (o : Op) → IsIn o (take l.op-index l.ops) → kind_names_folder (name_of o.kind) o.kind ≡ true → HasRooms (added_origin o) (length l.ops) l.modseqs (name_of o.kind) l.charts.entries;
}
