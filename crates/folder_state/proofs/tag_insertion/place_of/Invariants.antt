use Rattle.std.proofs.Common.{◌≡◌, ◌++◌, take, drop}
use Rattle.crdt_ops.specs.SortedSets.{insert_ordered}
use Rattle.folder_state.specs.FolderTables.{by_id}
use Rattle.folder_state.proofs.tag_insertion.place_of.Given as goal

abbrev pub invariant-loop-at : goal.invariant-loop-at
invariant-loop-at l = insert_ordered by_id l.version l.versions ≡ take l.at l.versions ++ insert_ordered by_id l.version (drop l.at l.versions)
