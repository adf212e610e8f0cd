use Rattle.std.proofs.Common.{sym, ap, ◌∙◌}
use Rattle.std.specs.List.{list_any}
use Rattle.crdt_ops.specs.declared.kind.Kind.{Kind}
use Rattle.crdt_ops.specs.Tags.{MessageTag, tags_removed_by, same_tag}
use Rattle.crdt_ops.specs.TagLaws.{delete_removes_message_tags, old_ids_remove_message_tags, unsubscribe_keeps_message_tags}
use Rattle.folder_state.specs.Keys.{is_among}
use Rattle.folder_state.proofs.after_ops.removes_message.Goals as goal

pub returns-in-Delete : goal.returns-in-Delete
returns-in-Delete c =
    c.is_among.ensures ∙ ap (λ ids. is_among c.args.folder.now c.args.id c.in-Delete.own ids) c.as_slice.ensures.ids
    ∙ sym (ap (λ (kind : Kind). list_any (same_tag (MessageTag c.args.folder.now c.args.id)) (tags_removed_by kind)) c.in-Delete.is ∙ delete_removes_message_tags c.args.folder.now c.in-Delete.own c.args.id c.in-Delete.seen)

pub returns-in-Unsubscribe : goal.returns-in-Unsubscribe
returns-in-Unsubscribe c =
    sym (ap (λ (kind : Kind). list_any (same_tag (MessageTag c.args.folder.now c.args.id)) (tags_removed_by kind)) c.in-Unsubscribe.is ∙ unsubscribe_keeps_message_tags c.args.folder.now c.in-Unsubscribe.name c.args.id c.in-Unsubscribe.seen)

pub returns-in-Expunge : goal.returns-in-Expunge
returns-in-Expunge c =
    c.is_among-in-Expunge.ensures ∙ ap (λ ids. is_among c.args.folder.now c.args.id c.in-Expunge.own ids) c.as_slice-in-Expunge.ensures.ids
    ∙ sym (ap (λ (kind : Kind). list_any (same_tag (MessageTag c.args.folder.now c.args.id)) (tags_removed_by kind)) c.in-Expunge.is ∙ old_ids_remove_message_tags c.args.folder.now c.in-Expunge.own c.args.id c.in-Expunge.old_ids)

pub returns-in-Store : goal.returns-in-Store
returns-in-Store c =
    c.is_among-in-Store.ensures ∙ ap (λ ids. is_among c.args.folder.now c.args.id c.in-Store.own ids) c.as_slice-in-Store.ensures.ids
    ∙ sym (ap (λ (kind : Kind). list_any (same_tag (MessageTag c.args.folder.now c.args.id)) (tags_removed_by kind)) c.in-Store.is ∙ old_ids_remove_message_tags c.args.folder.now c.in-Store.own c.args.id c.in-Store.old_ids)
