use Rattle.std.proofs.Common.{◌≡◌, true, subst}
use Rattle.std.specs.List.{list_any}
use Rattle.tags_clocks.specs.declared.id.OpId.{OpId}
use Rattle.merge_laws.specs.Orders.{IsIn}
use Rattle.crdt_ops.specs.SortedSets.{IsListOf, id_order, same_id}
use Rattle.folder_state.proofs.FolderTablesLemmas.{tag_listed}
use Rattle.folder_state.proofs.Listing.{list_of_equivalent}
use Rattle.folder_state.proofs.folder_lists.tag_ids_of.Goals as goal

pub returns : goal.returns
returns c =
    let keys = c.args.folder.now.tags in
    let made = subst (λ xs. IsListOf id_order (λ (i : OpId). IsIn i xs) c.in_ok-ids.ids) c.tags.ensures (c.in_ok-ids.ensures {u = tt}) in
    list_of_equivalent (λ (i : OpId). IsIn i keys) (λ (i : OpId). list_any (same_id i) keys ≡ true) c.in_ok-ids.ids made (tag_listed keys)
