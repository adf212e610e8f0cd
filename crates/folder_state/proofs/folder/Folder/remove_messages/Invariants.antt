use Rattle.std.proofs.Common.{◌≡◌, None, cond, take}
use Rattle.std.specs.List.{list_any}
use Rattle.tags_clocks.specs.declared.id.OpId.{OpId}
use Rattle.crdt_ops.specs.SortedSets.{same_id}
use Rattle.folder_state.specs.FolderTables.{folder_contents}
use Rattle.folder_state.specs.OpRoom.{IsNoFuller}
use Rattle.folder_state.proofs.folder.Folder.remove_messages.Given as goal

abbrev pub invariant-loop-id : goal.invariant-loop-id
invariant-loop-id l = record {
  tag_data : (i : OpId) → (folder_contents l.self).tag_data i ≡ cond (list_any (same_id i) (take l.id-index l.ids)) None ((folder_contents l.fn.self).tag_data i);
  tags : l.self.tags ≡ l.fn.self.tags;
  room : IsNoFuller l.fn.self l.self;
}
