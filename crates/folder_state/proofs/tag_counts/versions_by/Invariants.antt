use Rattle.std.proofs.Common.{◌≡◌, ◌+◌, drop}
use Rattle.tags_clocks.specs.declared.id.OpId.{OpId}
use Rattle.folder_state.specs.OpRoom.{count_at, added_version_count}
use Rattle.folder_state.proofs.tag_counts.versions_by.Given as goal

abbrev pub invariant-loop-op : goal.invariant-loop-op
invariant-loop-op l = (origin : OpId) → count_at origin l.counts.entries + added_version_count (drop l.op-index l.ops) origin ≡ added_version_count l.ops origin
