use Rattle.std.proofs.Common.{◌≡◌, ◌∙◌, refl, rules, Bool, Option, None, Some, not, ◌&&◌, cond, ap, sym, subst}
use Rattle.std.specs.List.{list_any}
use Rattle.crdt_ops.specs.SortedSets.{same_id}
use Rattle.crdt_ops.specs.Sets.{MessageTagData}
use Rattle.folder_state.specs.FolderTables.{tag_data_in, find_folder, has_tag_in}
use Rattle.folder_state.specs.OpRoom.{IsNoFullerIn}
use Rattle.folder_state.proofs.RoomLeftLemmas.{no_fuller_in, no_fuller_now}
use Rattle.folder_state.proofs.Lenses.{and_false, cond_none, folder_changed, folder_data_changed, folder_data_same}
use Rattle.folder_state.proofs.tag_changes.remove_both_kinds.Goals as goal

pub returns-in-Some-clause-tags : goal.returns-in-Some-clause-tags
returns-in-Some-clause-tags c =
    let now = c.remove_ids.new.self in
    let post = (c.get_mut.follows.holds now).3 (search rules) in
    let was = sym (c.in-Some.ensures {u = tt}).value in
    let name = c.args.name.now in
    let old = c.args.by_name.now.entries in
    let new = (c.get_mut.follows.lender now).entries in
    folder_data_changed name old new c.in-Some.folder.now now (subst (λ n. find_folder n old ≡ Some c.in-Some.folder.now) c.as_bytes.ensures was)
    (folder_changed name c.as_bytes.result.now c.as_bytes.ensures old new post.3 (Some now) post.1)
    has_tag_in (λ (b : Bool) i (x : Bool). not (b && list_any (same_id i) c.args.ids.now) && x) (λ i x. refl) (λ i. c.remove_ids.ensures.tags i)

pub returns-in-Some-clause-tag_data : goal.returns-in-Some-clause-tag_data
returns-in-Some-clause-tag_data c =
    let now = c.remove_ids.new.self in
    let post = (c.get_mut.follows.holds now).3 (search rules) in
    let was = sym (c.in-Some.ensures {u = tt}).value in
    let name = c.args.name.now in
    let old = c.args.by_name.now.entries in
    let new = (c.get_mut.follows.lender now).entries in
    folder_data_changed name old new c.in-Some.folder.now now (subst (λ n. find_folder n old ≡ Some c.in-Some.folder.now) c.as_bytes.ensures was)
    (folder_changed name c.as_bytes.result.now c.as_bytes.ensures old new post.3 (Some now) post.1)
    tag_data_in (λ (b : Bool) i (x : Option MessageTagData). cond (b && list_any (same_id i) c.args.ids.now) None x) (λ i x. refl) (λ i. c.remove_ids.ensures.tag_data i)

pub returns-in-Some-clause-room : goal.returns-in-Some-clause-room
returns-in-Some-clause-room c =
    let now = c.remove_ids.new.self in
    let post = (c.get_mut.follows.holds now).3 (search rules) in
    let was = sym (c.in-Some.ensures {u = tt}).value in
    let name = c.args.name.now in
    let old = c.args.by_name.now.entries in
    let new = (c.get_mut.follows.lender now).entries in
    no_fuller_now name old new c.in-Some.folder.now now (subst (λ n. find_folder n old ≡ Some c.in-Some.folder.now) c.as_bytes.ensures was)
    (folder_changed name c.as_bytes.result.now c.as_bytes.ensures old new post.3 (Some now) post.1)
    c.remove_ids.ensures.room

pub returns-in-None-clause-tags : goal.returns-in-None-clause-tags
returns-in-None-clause-tags c = λ f i.
    let name = c.args.name.now in
    let old = c.args.by_name.now.entries in
    let none = subst (λ n. find_folder n old ≡ None) c.as_bytes.ensures (sym (c.in-None.ensures {u = tt}).value) in
    ap (λ m. has_tag_in (find_folder f m.entries) i) c.get_mut.follows.holds-at-none
    ∙ folder_data_same name old none has_tag_in (λ (b : Bool) i (x : Bool). not (b && list_any (same_id i) c.args.ids.now) && x) (λ i x. refl) (λ i. and_false (list_any (same_id i) c.args.ids.now)) f i

pub returns-in-None-clause-tag_data : goal.returns-in-None-clause-tag_data
returns-in-None-clause-tag_data c = λ f i.
    let name = c.args.name.now in
    let old = c.args.by_name.now.entries in
    let none = subst (λ n. find_folder n old ≡ None) c.as_bytes.ensures (sym (c.in-None.ensures {u = tt}).value) in
    ap (λ m. tag_data_in (find_folder f m.entries) i) c.get_mut.follows.holds-at-none
    ∙ folder_data_same name old none tag_data_in (λ (b : Bool) i (x : Option MessageTagData). cond (b && list_any (same_id i) c.args.ids.now) None x) (λ i x. refl) (λ i. cond_none (list_any (same_id i) c.args.ids.now)) f i

pub returns-in-None-clause-room : goal.returns-in-None-clause-room
returns-in-None-clause-room c = λ f. subst (λ m. IsNoFullerIn (find_folder f c.args.by_name.now.entries) (find_folder f m.entries)) (sym c.get_mut.follows.holds-at-none) (no_fuller_in (find_folder f c.args.by_name.now.entries))
