use Rattle.std.proofs.Common.{not, ◌&&◌, cond, None, sym, ap, ◌∙◌}
use Rattle.std.specs.List.{list_any}
use Rattle.std.specs.Str.{bytes_eq}
use Rattle.crdt_ops.specs.declared.kind.Kind.{Kind}
use Rattle.crdt_ops.specs.SortedSets.{same_id}
use Rattle.crdt_ops.specs.Tags.{FolderTag, MessageTag, tags_removed_by, same_tag}
use Rattle.crdt_ops.specs.TagLaws.{delete_removes_folder_tags, delete_removes_message_tags, old_ids_keep_folder_tags, old_ids_remove_message_tags, unsubscribe_keeps_folder_tags, unsubscribe_keeps_message_tags}
use Rattle.uid_projection.specs.FolderAhead.{tag_data_ahead, folder_of, tags_ahead}
use Rattle.uid_projection.proofs.IdLemmas.{ok_always, on_ok_with}
use Rattle.uid_projection.proofs.folder_ahead.FolderAhead.take_tags_of.Goals as goal

pub returns-in-Delete-clause-tags : goal.returns-in-Delete-clause-tags
returns-in-Delete-clause-tags c =
    let f = folder_of c.args.self.now in
    on_ok_with c.take_all.result
    (λ h i. h i
    ∙ ap (λ ids. not (bytes_eq f c.in-Delete.folder && list_any (same_id i) ids) && tags_ahead c.args.self.now i) c.as_slice.ensures.ids
    ∙ ap (λ b. not b && tags_ahead c.args.self.now i)
    (sym (ap (λ (kind : Kind). list_any (same_tag (FolderTag f i)) (tags_removed_by kind)) c.in-Delete.is ∙ delete_removes_folder_tags f c.in-Delete.folder i c.in-Delete.seen)))
    c.take_all.ensures.tags

pub returns-in-Delete-clause-tag_data : goal.returns-in-Delete-clause-tag_data
returns-in-Delete-clause-tag_data c =
    let f = folder_of c.args.self.now in
    on_ok_with c.take_all.result
    (λ h i. h i
    ∙ ap (λ ids. cond (bytes_eq f c.in-Delete.folder && list_any (same_id i) ids) None (tag_data_ahead c.args.self.now i)) c.as_slice.ensures.ids
    ∙ ap (λ b. cond b None (tag_data_ahead c.args.self.now i))
    (sym (ap (λ (kind : Kind). list_any (same_tag (MessageTag f i)) (tags_removed_by kind)) c.in-Delete.is ∙ delete_removes_message_tags f c.in-Delete.folder i c.in-Delete.seen)))
    c.take_all.ensures.tag_data

pub returns-in-Expunge-clause-tags : goal.returns-in-Expunge-clause-tags
returns-in-Expunge-clause-tags c =
    let f = folder_of c.args.self.now in
    ok_always c.take_messages.result
    (λ i. c.take_messages.ensures.tags i
    ∙ ap (λ b. not b && tags_ahead c.args.self.now i)
    (sym (ap (λ (kind : Kind). list_any (same_tag (FolderTag f i)) (tags_removed_by kind)) c.in-Expunge.is ∙ old_ids_keep_folder_tags f c.in-Expunge.folder i c.in-Expunge.old_ids)))

pub returns-in-Expunge-clause-tag_data : goal.returns-in-Expunge-clause-tag_data
returns-in-Expunge-clause-tag_data c =
    let f = folder_of c.args.self.now in
    on_ok_with c.take_messages.result
    (λ h i. h i
    ∙ ap (λ ids. cond (bytes_eq f c.in-Expunge.folder && list_any (same_id i) ids) None (tag_data_ahead c.args.self.now i)) c.as_slice-in-Expunge.ensures.ids
    ∙ ap (λ b. cond b None (tag_data_ahead c.args.self.now i))
    (sym (ap (λ (kind : Kind). list_any (same_tag (MessageTag f i)) (tags_removed_by kind)) c.in-Expunge.is ∙ old_ids_remove_message_tags f c.in-Expunge.folder i c.in-Expunge.old_ids)))
    c.take_messages.ensures.tag_data

pub returns-in-Store-clause-tags : goal.returns-in-Store-clause-tags
returns-in-Store-clause-tags c =
    let f = folder_of c.args.self.now in
    ok_always c.take_messages-in-Store.result
    (λ i. c.take_messages-in-Store.ensures.tags i
    ∙ ap (λ b. not b && tags_ahead c.args.self.now i)
    (sym (ap (λ (kind : Kind). list_any (same_tag (FolderTag f i)) (tags_removed_by kind)) c.in-Store.is ∙ old_ids_keep_folder_tags f c.in-Store.folder i c.in-Store.old_ids)))

pub returns-in-Store-clause-tag_data : goal.returns-in-Store-clause-tag_data
returns-in-Store-clause-tag_data c =
    let f = folder_of c.args.self.now in
    on_ok_with c.take_messages-in-Store.result
    (λ h i. h i
    ∙ ap (λ ids. cond (bytes_eq f c.in-Store.folder && list_any (same_id i) ids) None (tag_data_ahead c.args.self.now i)) c.as_slice-in-Store.ensures.ids
    ∙ ap (λ b. cond b None (tag_data_ahead c.args.self.now i))
    (sym (ap (λ (kind : Kind). list_any (same_tag (MessageTag f i)) (tags_removed_by kind)) c.in-Store.is ∙ old_ids_remove_message_tags f c.in-Store.folder i c.in-Store.old_ids)))
    c.take_messages-in-Store.ensures.tag_data

pub returns-in-Unsubscribe-clause-tags : goal.returns-in-Unsubscribe-clause-tags
returns-in-Unsubscribe-clause-tags c = λ i.
    let f = folder_of c.args.self.now in
    ap (λ b. not b && tags_ahead c.args.self.now i)
    (sym (ap (λ (kind : Kind). list_any (same_tag (FolderTag f i)) (tags_removed_by kind)) c.in-Unsubscribe.is ∙ unsubscribe_keeps_folder_tags f c.in-Unsubscribe.name i c.in-Unsubscribe.seen))

pub returns-in-Unsubscribe-clause-tag_data : goal.returns-in-Unsubscribe-clause-tag_data
returns-in-Unsubscribe-clause-tag_data c = λ i.
    let f = folder_of c.args.self.now in
    ap (λ b. cond b None (tag_data_ahead c.args.self.now i))
    (sym (ap (λ (kind : Kind). list_any (same_tag (MessageTag f i)) (tags_removed_by kind)) c.in-Unsubscribe.is ∙ unsubscribe_keeps_message_tags f c.in-Unsubscribe.name i c.in-Unsubscribe.seen))
