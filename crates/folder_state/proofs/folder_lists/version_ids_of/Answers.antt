use Rattle.std.proofs.Common.{◌≡◌, Some, sym, subst}
use Rattle.std.specs.Option.{option_map}
use Rattle.tags_clocks.specs.declared.id.OpId.{OpId}
use Rattle.crdt_ops.specs.SortedSets.{IsListOf, id_order}
use Rattle.crdt_ops.specs.Sets.{MessageTagData}
use Rattle.folder_state.specs.FolderTables.{folder_contents}
use Rattle.folder_state.proofs.Listing.{if_ok_by}
use Rattle.folder_state.proofs.folder_lists.version_ids_of.Goals as goal

pub returns-in-Some : goal.returns-in-Some
returns-in-Some c =
    let are = c.in-Some.ensures {u = tt} in
    if_ok_by c.ids_of.result (λ ids e. subst (IsListOf id_order (λ (i : OpId). option_map (λ (b : MessageTagData). b.origin) ((folder_contents c.args.folder.now).tag_data i) ≡ Some c.args.origin.now)) (sym e) (are.ascending, are.listed)) c.ids_of.ensures

pub returns-in-None : goal.returns-in-None
returns-in-None c =
    subst (IsListOf id_order (λ (i : OpId). option_map (λ (b : MessageTagData). b.origin) ((folder_contents c.args.folder.now).tag_data i) ≡ Some c.args.origin.now)) (sym c.none.ensures)
    (tt, λ i. (λ h. absurd h, λ h. absurd (c.in-None.ensures {u = tt} i h)))
