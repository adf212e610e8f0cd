use Rattle.std.proofs.Common.{◌≡◌, ◌∙◌, Some, ap, sym}
use Rattle.std.specs.Option.{option_copied, option_map}
use Rattle.tags_clocks.specs.declared.id.OpId.{OpId}
use Rattle.crdt_ops.specs.Sets.{MessageTagData}
use Rattle.folder_state.specs.Contents.{IsVersion}
use Rattle.folder_state.specs.FolderTables.{tag_data_in}
use Rattle.folder_state.specs.Tables.{contents_of}
use Rattle.folder_state.proofs.Listing.{list_of_equivalent}
use Rattle.folder_state.proofs.VersionLemmas.{versions_by_set}
use Rattle.folder_state.proofs.folders.Folders.versions.Goals as goal

pub returns-clause-contents : goal.returns-clause-contents
returns-clause-contents c =
    let now = contents_of c.args.self.now in
    list_of_equivalent (λ (i : OpId). option_map (λ (b : MessageTagData). b.origin) (tag_data_in (option_copied c.folder.result) i) ≡ Some c.args.origin.now) (IsVersion now c.args.folder.now c.args.origin.now) c.in_ok-ids.ids (c.in_ok-ids.ensures {u = tt})
    (λ i. (λ t. ap (option_map (λ (b : MessageTagData). b.origin)) (c.folder.ensures.tag_data i) ∙ t, λ t. ap (option_map (λ (b : MessageTagData). b.origin)) (sym (c.folder.ensures.tag_data i)) ∙ t))

pub returns-clause-set : goal.returns-clause-set
returns-clause-set c = λ ops m. versions_by_set (contents_of c.args.self.now) ops c.args.folder.now c.args.origin.now c.in_ok-ids.ids m (returns-clause-contents c)
