use Rattle.std.proofs.Common.{◌≡◌, ◌≤◌, not, ◌&&◌, take}
use Rattle.std.specs.List.{list_any}
use Rattle.indexmap.specs.IndexSet.{spare}
use Rattle.tags_clocks.specs.declared.id.OpId.{OpId}
use Rattle.crdt_ops.specs.SortedSets.{same_id}
use Rattle.folder_state.proofs.tag_removal.forget_keys.Given as goal

abbrev pub invariant-loop-id : goal.invariant-loop-id
invariant-loop-id l = record {
  keys : (i : OpId) → list_any (same_id i) l.keys.keys ≡ (not (list_any (same_id i) (take l.id-index l.ids)) && list_any (same_id i) l.fn.keys.keys);
  room : spare l.fn.keys ≤ spare l.keys;
}
