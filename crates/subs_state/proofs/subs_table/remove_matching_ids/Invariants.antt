use Rattle.std.proofs.Common.{◌≡◌, ◌≤◌, not, ◌&&◌, drop}
use Rattle.std.specs.List.{list_any}
use Rattle.indexmap.specs.IndexSet.{spare}
use Rattle.tags_clocks.specs.declared.id.OpId.{OpId}
use Rattle.crdt_ops.specs.SortedSets.{same_id}
use Rattle.subs_state.proofs.subs_table.remove_matching_ids.Given as goal

abbrev pub invariant-loop-id : goal.invariant-loop-id
invariant-loop-id l =
    ((i : OpId) → (not (list_any (same_id i) (drop l.id-index l.ids)) && list_any (same_id i) l.name_tags.ids.keys) ≡ (not (list_any (same_id i) l.ids) && list_any (same_id i) l.fn.name_tags.ids.keys))
    × (spare l.fn.name_tags.ids ≤ spare l.name_tags.ids)
