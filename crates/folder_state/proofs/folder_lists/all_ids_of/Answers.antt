use Rattle.std.proofs.Common.{◌∙◌, subst}
use Rattle.tags_clocks.specs.declared.id.OpId.{OpId}
use Rattle.merge_laws.specs.Orders.{IsIn}
use Rattle.crdt_ops.specs.SortedSets.{IsListOf, id_order}
use Rattle.folder_state.specs.FolderTables.{HasTagIn, folder_contents, folder_ids}
use Rattle.folder_state.proofs.Listing.{list_of_equivalent}
use Rattle.folder_state.proofs.folder_lists.all_ids_of.Goals as goal

pub returns : goal.returns
returns c =
    let k = c.args.folder.now in
    let post = c.in_ok-list.ensures {u = tt} in
    let made = subst (λ xs. IsListOf id_order (λ (i : OpId). IsIn i xs) c.in_ok-ids.ids) (c.deref.ensures.value ∙ post.ids) (c.in_ok-ids.ensures {u = tt}) in
    list_of_equivalent (λ (i : OpId). IsIn i (folder_ids k)) (HasTagIn (folder_contents k)) c.in_ok-ids.ids made post.tags
