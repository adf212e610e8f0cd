use Rattle.std.proofs.Common.{◌∙◌, None, not, ◌&&◌, cond, ap, sym}
use Rattle.std.specs.List.{list_any}
use Rattle.crdt_ops.specs.declared.kind.Kind.{Kind}
use Rattle.crdt_ops.specs.Tags.{FolderTag, MessageTag, tags_removed_by, same_tag}
use Rattle.crdt_ops.specs.TagLaws.{delete_removes_folder_tags, delete_removes_message_tags, old_ids_keep_folder_tags, old_ids_remove_message_tags, unsubscribe_keeps_folder_tags, unsubscribe_keeps_message_tags}
use Rattle.folder_state.specs.Keys.{is_among}
use Rattle.folder_state.specs.FolderTables.{tag_data_in, find_folder, has_tag_in}
use Rattle.folder_state.proofs.RoomLeftLemmas.{no_fuller_in}
use Rattle.folder_state.proofs.tag_changes.remove_tags_of.Goals as goal

pub returns-in-Delete-clause-tags : goal.returns-in-Delete-clause-tags
returns-in-Delete-clause-tags c = λ f i.
    let old = has_tag_in (find_folder f c.args.by_name.now.entries) i in
    c.remove_both_kinds.ensures.tags f i
    ∙ ap (λ ids. not (is_among f i c.in-Delete.folder ids) && old) c.as_slice.ensures.ids
    ∙ ap (λ b. not b && old) (sym (ap (λ (kind : Kind). list_any (same_tag (FolderTag f i)) (tags_removed_by kind)) c.in-Delete.is ∙ delete_removes_folder_tags f c.in-Delete.folder i c.in-Delete.seen))

pub returns-in-Delete-clause-tag_data : goal.returns-in-Delete-clause-tag_data
returns-in-Delete-clause-tag_data c = λ f i.
    let old = tag_data_in (find_folder f c.args.by_name.now.entries) i in
    c.remove_both_kinds.ensures.tag_data f i
    ∙ ap (λ ids. cond (is_among f i c.in-Delete.folder ids) None old) c.as_slice.ensures.ids
    ∙ ap (λ b. cond b None old) (sym (ap (λ (kind : Kind). list_any (same_tag (MessageTag f i)) (tags_removed_by kind)) c.in-Delete.is ∙ delete_removes_message_tags f c.in-Delete.folder i c.in-Delete.seen))

pub returns-in-Expunge-clause-tags : goal.returns-in-Expunge-clause-tags
returns-in-Expunge-clause-tags c = λ f i.
    let old = has_tag_in (find_folder f c.args.by_name.now.entries) i in
    c.remove_message_tags.ensures.tags f i
    ∙ ap (λ b. not b && old) (sym (ap (λ (kind : Kind). list_any (same_tag (FolderTag f i)) (tags_removed_by kind)) c.in-Expunge.is ∙ old_ids_keep_folder_tags f c.in-Expunge.folder i c.in-Expunge.old_ids))

pub returns-in-Expunge-clause-tag_data : goal.returns-in-Expunge-clause-tag_data
returns-in-Expunge-clause-tag_data c = λ f i.
    let old = tag_data_in (find_folder f c.args.by_name.now.entries) i in
    c.remove_message_tags.ensures.tag_data f i
    ∙ ap (λ ids. cond (is_among f i c.in-Expunge.folder ids) None old) c.as_slice-in-Expunge.ensures.ids
    ∙ ap (λ b. cond b None old) (sym (ap (λ (kind : Kind). list_any (same_tag (MessageTag f i)) (tags_removed_by kind)) c.in-Expunge.is ∙ old_ids_remove_message_tags f c.in-Expunge.folder i c.in-Expunge.old_ids))

pub returns-in-Store-clause-tags : goal.returns-in-Store-clause-tags
returns-in-Store-clause-tags c = λ f i.
    let old = has_tag_in (find_folder f c.args.by_name.now.entries) i in
    c.remove_message_tags-in-Store.ensures.tags f i
    ∙ ap (λ b. not b && old) (sym (ap (λ (kind : Kind). list_any (same_tag (FolderTag f i)) (tags_removed_by kind)) c.in-Store.is ∙ old_ids_keep_folder_tags f c.in-Store.folder i c.in-Store.old_ids))

pub returns-in-Store-clause-tag_data : goal.returns-in-Store-clause-tag_data
returns-in-Store-clause-tag_data c = λ f i.
    let old = tag_data_in (find_folder f c.args.by_name.now.entries) i in
    c.remove_message_tags-in-Store.ensures.tag_data f i
    ∙ ap (λ ids. cond (is_among f i c.in-Store.folder ids) None old) c.as_slice-in-Store.ensures.ids
    ∙ ap (λ b. cond b None old) (sym (ap (λ (kind : Kind). list_any (same_tag (MessageTag f i)) (tags_removed_by kind)) c.in-Store.is ∙ old_ids_remove_message_tags f c.in-Store.folder i c.in-Store.old_ids))

pub returns-in-Unsubscribe-clause-tags : goal.returns-in-Unsubscribe-clause-tags
returns-in-Unsubscribe-clause-tags c = λ f i.
    let old = has_tag_in (find_folder f c.args.by_name.now.entries) i in
    ap (λ b. not b && old) (sym (ap (λ (kind : Kind). list_any (same_tag (FolderTag f i)) (tags_removed_by kind)) c.in-Unsubscribe.is ∙ unsubscribe_keeps_folder_tags f c.in-Unsubscribe.name i c.in-Unsubscribe.seen))

pub returns-in-Unsubscribe-clause-tag_data : goal.returns-in-Unsubscribe-clause-tag_data
returns-in-Unsubscribe-clause-tag_data c = λ f i.
    let old = tag_data_in (find_folder f c.args.by_name.now.entries) i in
    ap (λ b. cond b None old) (sym (ap (λ (kind : Kind). list_any (same_tag (MessageTag f i)) (tags_removed_by kind)) c.in-Unsubscribe.is ∙ unsubscribe_keeps_message_tags f c.in-Unsubscribe.name i c.in-Unsubscribe.seen))

pub returns-in-Unsubscribe-clause-room : goal.returns-in-Unsubscribe-clause-room
returns-in-Unsubscribe-clause-room c = λ f. no_fuller_in (find_folder f c.args.by_name.now.entries)

pub returns-in-Subscribe-clause-room : goal.returns-in-Subscribe-clause-room
returns-in-Subscribe-clause-room c = λ f. no_fuller_in (find_folder f c.args.by_name.now.entries)

pub returns-in-Create-clause-room : goal.returns-in-Create-clause-room
returns-in-Create-clause-room c = λ f. no_fuller_in (find_folder f c.args.by_name.now.entries)

pub returns-in-Append-clause-room : goal.returns-in-Append-clause-room
returns-in-Append-clause-room c = λ f. no_fuller_in (find_folder f c.args.by_name.now.entries)
