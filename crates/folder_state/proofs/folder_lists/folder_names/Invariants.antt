use Rattle.std.proofs.Common.{◌≡◌, ◌∷◌, ℕ, drop, take}
use Rattle.std.specs.Global.{Vec}
use Rattle.std.specs.List.{filter_map, fold}
use Rattle.imap_types.specs.Ascending.{octet_order}
use Rattle.imap_types.specs.Names.{inbox}
use Rattle.merge_laws.specs.Orders.{IsIn}
use Rattle.crdt_ops.specs.SortedSets.{sorted_set, insert_ordered}
use Rattle.folder_state.specs.FolderTables.{IsIndexedFolder, FolderTables, name_if_tagged}
use Rattle.folder_state.proofs.folder_lists.folder_names.Given as goal

abbrev pub invariant-loop-place : goal.invariant-loop-place
invariant-loop-place l = record {
  names :
      fold (λ done name. insert_ordered octet_order name done) l.names.items (filter_map name_if_tagged (drop l.place l.by_name.entries))
      ≡ sorted_set octet_order (inbox ∷ filter_map name_if_tagged l.by_name.entries);
  known : (entry : Vec ℕ × FolderTables) → IsIn entry (take l.place l.by_name.entries) → IsIndexedFolder l.by_name.entries entry;
}
