use Rattle.std.proofs.Common.{◌≡◌, ◌≤◌, ◌++◌, List, take}
use Rattle.crdt_ops.specs.declared.op.Op.{Op}
use Rattle.folder_state.specs.Contents.{Contents}
use Rattle.folder_state.specs.AfterOps.{contents_after}
use Rattle.uid_projection.specs.FolderAhead.{IsAhead, folder_of}
use Rattle.uid_projection.specs.NextOps.{IsNextAhead}
use Rattle.uid_projection.specs.Chart.{IsChart}
use Rattle.uid_projection.proofs.chart_ahead.advance_over.Given as goal

abbrev pub invariant-loop-op : goal.invariant-loop-op
invariant-loop-op l = record {
  latest : l.chart.entries.latest ≤ l.chart.highest;
  folder : (folder_of l.ahead) ≡ (folder_of l.fn.ahead);
  ahead : (c : Contents) → IsAhead c l.fn.ahead → IsAhead (contents_after c (take l.op-index l.ops)) l.ahead;
  shows :
      (list : List Op) (c : Contents)
      → IsNextAhead l.charts.start l.folder l.charts.nothing.entries c list l.ops l.fn.ahead
      → IsChart l.charts.start l.folder list l.fn.chart.uidnext l.fn.chart.highest l.fn.chart.entries.entries
      → IsChart l.charts.start l.folder (list ++ take l.op-index l.ops) l.chart.uidnext l.chart.highest l.chart.entries.entries;
}
