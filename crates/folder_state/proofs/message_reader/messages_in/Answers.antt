use Rattle.std.proofs.Common.{◌∙◌, ap, subst}
use Rattle.tags_clocks.specs.declared.id.OpId.{OpId}
use Rattle.merge_laws.specs.Orders.{IsIn}
use Rattle.crdt_ops.specs.SortedSets.{IsListOf, id_order}
use Rattle.std.proofs.Common.{map}
use Rattle.folder_state.specs.MessageRefs.{stored_message}
use Rattle.folder_state.proofs.VersionLemmas.{messages_by_tables}
use Rattle.folder_state.proofs.message_reader.messages_in.Goals as goal

pub returns : goal.returns
returns c = λ v n tag_data dated_texts.
    let k = c.args.folder.now in
    let post = c.in_ok-list.ensures {u = tt} in
    let made = subst (λ xs. IsListOf id_order (λ (i : OpId). IsIn i xs) c.in_ok-origins.origins) (c.deref.ensures.value ∙ post.origins) (c.in_ok-origins.ensures {u = tt}) in
    messages_by_tables v n k post.indexed tag_data c.args.dated_texts.now.entries dated_texts c.in_ok-origins.origins c.in_ok-messages.messages.items made
    (c.in_ok-messages.ensures {u = tt} ∙ ap (map (stored_message k.messages c.args.dated_texts.now.entries)) c.as_slice.ensures.ids)
