use Rattle.std.proofs.Common.{◌≡◌, ◌∙◌, ◌≤◌, ◌+◌, List, ℕ, None, Some, Option, ◌||◌, Bool, true, false, cond, refl, ap, sym, subst}
use Rattle.std.specs.Global.{Vec}
use Rattle.std.specs.Map.{lookup}
use Rattle.std.proofs.Common.{arith}
use Rattle.std.specs.Option.{option_map, option_or}
use Rattle.std.specs.Vec.{vec_capacity}
use Rattle.crdt_ops.specs.declared.kind.Kind.{Kind}
use Rattle.crdt_ops.specs.declared.op.Op.{Op}
use Rattle.crdt_ops.specs.SortedSets.{is_some_id, same_id}
use Rattle.crdt_ops.specs.Sets.{DatedText, tag_data_by, dated_text_by}
use Rattle.crdt_ops.specs.Tags.{FolderTag, MessageTag, tag_added_by, is_some_tag}
use Rattle.folder_state.specs.FolderTables.{FolderTables, tag_data_in, find_folder, has_tag_in}
use Rattle.folder_state.specs.OpRoom.{HasRoomAt, is_named, origin_of_op, added_tag_count, target, added_version_count, counts_of}
use Rattle.folder_state.specs.MessageRefs.{stored_dated_text}
use Rattle.folder_state.proofs.RoomLeftLemmas.{list_one, place_one, room_less, version_one}
use Rattle.folder_state.proofs.tag_changes.add_tag_of.Goals as goal

or_cond : (b : Bool) (x : DatedText) (y : Option DatedText) → cond b (Some x) y ≡ option_or (cond b (Some x) None) y
or_cond true x y = refl
or_cond false x y = refl

abbrev HasRoomBefore : Op → Kind → List Op → Op → List (Vec ℕ × FolderTables) → Type 0
HasRoomBefore op kind rest o old = HasRoomAt (λ n. cond (is_named n (target kind)) 1 0 + added_tag_count rest n) (λ i. cond (is_some_id i (origin_of_op op.id kind)) 1 0 + added_version_count rest i) (origin_of_op o.id o.kind) (target o.kind) (λ n. find_folder n old)

abbrev HasOwnRoom : Op → Kind → List (Vec ℕ × FolderTables) → Type 0
HasOwnRoom op kind old = HasRoomAt (λ n. cond (is_named n (target kind)) 1 0 + 0) (λ i. cond (is_some_id i (origin_of_op op.id kind)) 1 0 + 0) (origin_of_op op.id kind) (target kind) (λ n. find_folder n old)

pub put_tag-requires : goal.put_tag-requires
put_tag-requires c =
    let h = subst (λ (kind : Kind). HasOwnRoom c.args.op kind c.args.by_name.now.entries) c.in-Create.is c.requires.room in
    (h.0, h.1, place_one c.in-Create.folder h.0 None h.2)

pub put_append_tag-requires-clause-room : goal.put_append_tag-requires-clause-room
put_append_tag-requires-clause-room c =
    let h = subst (λ (kind : Kind). HasOwnRoom c.args.op kind c.args.by_name.now.entries) c.in-Append.is c.requires.room in
    (h.0, h.1, place_one c.in-Append.folder h.0 (Some c.args.op.id) h.2, version_one c.args.op.id h.0.messages h.3)

pub put_append_tag-requires-clause-list : goal.put_append_tag-requires-clause-list
put_append_tag-requires-clause-list c =
    let h = subst (λ (kind : Kind). counts_of (λ i. cond (is_some_id i (origin_of_op c.args.op.id kind)) 1 0 + 0) (origin_of_op c.args.op.id kind) ≤ vec_capacity c.args.list) c.in-Append.is c.requires.list.1 in
    (c.requires.list.0, list_one c.args.op.id (vec_capacity c.args.list) h)

pub put_message-requires-clause-room : goal.put_message-requires-clause-room
put_message-requires-clause-room c =
    let h = subst (λ (kind : Kind). HasOwnRoom c.args.op kind c.args.by_name.now.entries) c.in-Store.is c.requires.room in
    (h.0, h.1, place_one c.in-Store.folder h.0 (Some c.in-Store.origin) h.2, version_one c.in-Store.origin h.0.messages h.3)

pub put_message-requires-clause-list : goal.put_message-requires-clause-list
put_message-requires-clause-list c =
    let h = subst (λ (kind : Kind). counts_of (λ i. cond (is_some_id i (origin_of_op c.args.op.id kind)) 1 0 + 0) (origin_of_op c.args.op.id kind) ≤ vec_capacity c.args.list) c.in-Store.is c.requires.list.1 in
    (c.requires.list.0, list_one c.in-Store.origin (vec_capacity c.args.list) h)

pub returns-in-Append-clause-tag_data : goal.returns-in-Append-clause-tag_data
returns-in-Append-clause-tag_data c = λ f i.
    c.put_append_tag.ensures.tag_data f i
    ∙ sym (ap (λ (kind : Kind). cond (is_some_tag (MessageTag f i) (tag_added_by c.args.op.id kind)) (tag_data_by c.args.op.id kind) (tag_data_in (find_folder f c.args.by_name.now.entries) i)) c.in-Append.is)

pub returns-in-Store-clause-tag_data : goal.returns-in-Store-clause-tag_data
returns-in-Store-clause-tag_data c = λ f i.
    c.put_message.ensures.tag_data f i
    ∙ sym (ap (λ (kind : Kind). cond (is_some_tag (MessageTag f i) (tag_added_by c.args.op.id kind)) (tag_data_by c.args.op.id kind) (tag_data_in (find_folder f c.args.by_name.now.entries) i)) c.in-Store.is)

pub returns-in-Append-clause-dated_texts : goal.returns-in-Append-clause-dated_texts
returns-in-Append-clause-dated_texts c = λ i.
    let old = option_map stored_dated_text (lookup (same_id i) c.args.dated_texts.now.entries) in
    c.put_dated_text.ensures.updated i
    ∙ or_cond (same_id i c.args.op.id) (record { date = c.in-Append.date; text = c.in-Append.text }) old
    ∙ sym (ap (λ (kind : Kind). option_or (cond (same_id i c.args.op.id) (dated_text_by kind) None) old) c.in-Append.is)

pub returns-in-Create-clause-room : goal.returns-in-Create-clause-room
returns-in-Create-clause-room c = λ rest o h w.
    c.put_tag.ensures.room (added_tag_count rest) (added_version_count rest) (origin_of_op o.id o.kind) (target o.kind)
    (subst (λ (kind : Kind). HasRoomBefore c.args.op kind rest o c.args.by_name.now.entries) c.in-Create.is h) (omega arith)

pub returns-in-Expunge-clause-room : goal.returns-in-Expunge-clause-room
returns-in-Expunge-clause-room c = λ rest o h w.
    c.put_tag-in-Expunge.ensures.room (added_tag_count rest) (added_version_count rest) (origin_of_op o.id o.kind) (target o.kind)
    (subst (λ (kind : Kind). HasRoomBefore c.args.op kind rest o c.args.by_name.now.entries) c.in-Expunge.is h) (omega arith)

pub returns-in-Append-clause-room : goal.returns-in-Append-clause-room
returns-in-Append-clause-room c = λ rest o h w.
    c.put_append_tag.ensures.room (added_tag_count rest) (added_version_count rest) (origin_of_op o.id o.kind) (target o.kind)
    (subst (λ (kind : Kind). HasRoomBefore c.args.op kind rest o c.args.by_name.now.entries) c.in-Append.is h)
    (subst (λ (kind : Kind). counts_of (λ i. cond (is_some_id i (origin_of_op c.args.op.id kind)) 1 0 + added_version_count rest i) (origin_of_op c.args.op.id kind) ≤ vec_capacity c.args.list) c.in-Append.is w)

pub returns-in-Store-clause-room : goal.returns-in-Store-clause-room
returns-in-Store-clause-room c = λ rest o h w.
    c.put_message.ensures.room (added_tag_count rest) (added_version_count rest) (origin_of_op o.id o.kind) (target o.kind)
    (subst (λ (kind : Kind). HasRoomBefore c.args.op kind rest o c.args.by_name.now.entries) c.in-Store.is h)
    (subst (λ (kind : Kind). counts_of (λ i. cond (is_some_id i (origin_of_op c.args.op.id kind)) 1 0 + added_version_count rest i) (origin_of_op c.args.op.id kind) ≤ vec_capacity c.args.list) c.in-Store.is w)

less : (op : Op) (rest : List Op) (o : Op) (old : List (Vec ℕ × FolderTables)) → HasRoomBefore op op.kind rest o old → HasRoomAt (added_tag_count rest) (added_version_count rest) (origin_of_op o.id o.kind) (target o.kind) (λ n. find_folder n old)
less op rest o old h = room_less (λ n. cond (is_named n (target op.kind)) 1 0) (added_tag_count rest) (λ i. cond (is_some_id i (origin_of_op op.id op.kind)) 1 0) (added_version_count rest) (origin_of_op o.id o.kind) (target o.kind) (λ n. find_folder n old) h

pub returns-in-Delete-clause-room : goal.returns-in-Delete-clause-room
returns-in-Delete-clause-room c = λ rest o h w. less c.args.op rest o c.args.by_name.now.entries h

pub returns-in-Subscribe-clause-room : goal.returns-in-Subscribe-clause-room
returns-in-Subscribe-clause-room c = λ rest o h w. less c.args.op rest o c.args.by_name.now.entries h

pub returns-in-Append-clause-tags : goal.returns-in-Append-clause-tags
returns-in-Append-clause-tags c = λ f i.
    c.put_append_tag.ensures.tags f i
    ∙ sym (ap (λ (kind : Kind). is_some_tag (FolderTag f i) (tag_added_by c.args.op.id kind) || has_tag_in (find_folder f c.args.by_name.now.entries) i) c.in-Append.is)

pub returns-in-Store-clause-tags : goal.returns-in-Store-clause-tags
returns-in-Store-clause-tags c = λ f i.
    c.put_message.ensures.tags f i
    ∙ sym (ap (λ (kind : Kind). is_some_tag (FolderTag f i) (tag_added_by c.args.op.id kind) || has_tag_in (find_folder f c.args.by_name.now.entries) i) c.in-Store.is)
