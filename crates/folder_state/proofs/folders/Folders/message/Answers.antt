use Rattle.std.proofs.Common.{◌≡◌, ◌∙◌, Option, None, Some, refl, ap, sym}
use Rattle.std.specs.Option.{option_copied, option_map}
use Rattle.tags_clocks.specs.declared.id.OpId.{OpId}
use Rattle.crdt_ops.specs.Sets.{MessageTagData}
use Rattle.folder_state.specs.FolderTables.{tag_data_in}
use Rattle.folder_state.specs.MessageRefs.{message_ref}
use Rattle.folder_state.specs.Tables.{contents_of}
use Rattle.folder_state.proofs.VersionLemmas.{message_by_set}
use Rattle.folder_state.proofs.folders.Folders.message.Goals as goal

pub returns-in-Some-clause-contents : goal.returns-in-Some-clause-contents
returns-in-Some-clause-contents c =
    c.message_ref.ensures (contents_of c.args.self.now) c.args.folder.now
    (λ i. c.folder.ensures.tag_data i ∙ ap (λ o. tag_data_in (option_copied o) i) c.in-Some.is) refl

pub returns-in-Some-clause-set : goal.returns-in-Some-clause-set
returns-in-Some-clause-set c = λ list m. message_by_set (contents_of c.args.self.now) list c.args.folder.now c.args.origin.now (option_map message_ref c.message_ref.result) m (returns-in-Some-clause-contents c)

pub returns-in-None-clause-contents : goal.returns-in-None-clause-contents
returns-in-None-clause-contents c = λ h.
    let none = c.folder.ensures.tag_data h.0 ∙ ap (λ o. tag_data_in (option_copied o) h.0) c.in-None.is in
    let k : ◌≡◌ {A = Option OpId} None (Some c.args.origin.now) = ap (option_map (λ (b : MessageTagData). b.origin)) (sym none) ∙ h.1 in
    absurd cc

pub returns-in-None-clause-set : goal.returns-in-None-clause-set
returns-in-None-clause-set c = λ list m. message_by_set (contents_of c.args.self.now) list c.args.folder.now c.args.origin.now None m (returns-in-None-clause-contents c)
