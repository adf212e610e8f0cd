use Rattle.std.proofs.Common.{List, ◌++◌, take}
use Rattle.crdt_ops.specs.declared.op.Op.{Op}
use Rattle.folder_state.specs.Contents.{IsMadeBy}
use Rattle.folder_state.specs.Tables.{contents_of}
use Rattle.uid_projection.specs.Applied.{IsApplied}
use Rattle.uid_projection.specs.Exhaustion.{Exhausts}
use Rattle.uid_projection.specs.ChartTable.{IsTable}
use Rattle.uid_projection.proofs.exhaustion.are_exhausting.Given as goal

abbrev pub invariant-loop-at : goal.invariant-loop-at
invariant-loop-at l = (list : List Op) → IsApplied (list ++ l.ops) → IsTable l.start list l.next_k l.charts.entries → IsMadeBy (contents_of l.value) list → Exhausts l.start list (take l.at l.ops) → ⊥
