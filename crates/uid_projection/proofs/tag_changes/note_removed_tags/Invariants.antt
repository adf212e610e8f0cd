use Rattle.std.proofs.Common.{◌≡◌, false, Some, take, if◌then◌else◌}
use Rattle.std.specs.List.{list_any}
use Rattle.std.specs.Map.{lookup}
use Rattle.tags_clocks.specs.declared.id.OpId.{OpId}
use Rattle.crdt_ops.specs.SortedSets.{same_id}
use Rattle.uid_projection.proofs.tag_changes.note_removed_tags.Given as goal

abbrev pub invariant-loop-id : goal.invariant-loop-id
invariant-loop-id l = (i : OpId) → lookup (same_id i) l.tags.entries ≡ (if list_any (same_id i) (take l.id-index l.ids) then Some false else lookup (same_id i) l.initial.tags.entries)
