use Rattle.std.proofs.Common.{◌≡◌, ◌≤◌, take}
use Rattle.indexmap.specs.IndexMap.{spare}
use Rattle.tags_clocks.specs.declared.id.OpId.{OpId}
use Rattle.uid_projection.specs.EntryMoves.{origins_without}
use Rattle.uid_projection.specs.ChartTable.{origin_at}
use Rattle.uid_projection.proofs.origins.remove_versions.Given as goal

abbrev pub invariant-loop-id : goal.invariant-loop-id
invariant-loop-id l = record {
  updated : (i : OpId) → origin_at l.versions.entries i ≡ origins_without (origin_at l.fn.versions.entries) (take l.id-index l.removed) i;
  room : spare l.fn.versions ≤ spare l.versions;
}
