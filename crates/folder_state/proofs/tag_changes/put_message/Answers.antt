use Rattle.std.proofs.Common.{◌≡◌, ◌∙◌, ℕ, refl, rules, Bool, Option, Some, ◌&&◌, cond, ap, sym, subst}
use Rattle.std.proofs.Common.{List}
use Rattle.std.specs.Global.{Vec}
use Rattle.std.specs.List.{list_any}
use Rattle.std.specs.Vec.{vec_capacity}
use Rattle.crdt_ops.specs.SortedSets.{same_id}
use Rattle.crdt_ops.specs.Sets.{MessageTagData}
use Rattle.folder_state.specs.FolderTables.{FolderTables, tag_data_in, find_folder, has_tag_in}
use Rattle.folder_state.specs.OpRoom.{HasPlaces, HasVersionRoom}
use Rattle.folder_state.proofs.FolderTablesLemmas.{message_tag_data}
use Rattle.folder_state.proofs.RoomLeftLemmas.{room_left}
use Rattle.folder_state.proofs.Lenses.{folder_changed, some_is, folder_data_changed}
use Rattle.folder_state.proofs.tag_changes.put_message.Goals as goal

same : (name octets : List ℕ) (old : List (Vec ℕ × FolderTables)) (a b : FolderTables) → octets ≡ name → find_folder name old ≡ Some a → find_folder octets old ≡ Some b → a ≡ b
same name octets old a b e h k = some_is a b (sym h ∙ sym (ap (λ n. find_folder n old) e) ∙ k)

pub put_message-requires-clause-places : goal.put_message-requires-clause-places
put_message-requires-clause-places c =
    let r = c.requires.room in
    let e = same c.args.name.now c.as_bytes.result.now c.args.by_name.now.entries r.0 c.in-Some.folder.now c.as_bytes.ensures r.1 (sym (c.in-Some.ensures {u = tt}).value) in
    subst (λ (k : FolderTables). HasPlaces k (Some c.args.origin.now) 1) e r.2

pub put_message-requires-clause-versions : goal.put_message-requires-clause-versions
put_message-requires-clause-versions c =
    let r = c.requires.room in
    let e = same c.args.name.now c.as_bytes.result.now c.args.by_name.now.entries r.0 c.in-Some.folder.now c.as_bytes.ensures r.1 (sym (c.in-Some.ensures {u = tt}).value) in
    subst (λ (k : FolderTables). HasVersionRoom k.messages c.args.origin.now 1) e r.3

pub returns-clause-tags : goal.returns-clause-tags
returns-clause-tags c =
    let now = c.put_message.new.self in
    let post = (c.get_mut.follows.holds now).3 (search rules) in
    let was = sym (c.in-Some.ensures {u = tt}).value in
    let name = c.args.name.now in
    let old = c.args.by_name.now.entries in
    let new = (c.get_mut.follows.lender now).entries in
    folder_data_changed name old new c.in-Some.folder.now now (subst (λ n. find_folder n old ≡ Some c.in-Some.folder.now) c.as_bytes.ensures was)
    (folder_changed name c.as_bytes.result.now c.as_bytes.ensures old new post.3 (Some now) post.1)
    has_tag_in (λ (b : Bool) i (x : Bool). x) (λ i x. refl) (λ i. ap (list_any (same_id i)) c.put_message.ensures.tags)

pub returns-clause-tag_data : goal.returns-clause-tag_data
returns-clause-tag_data c =
    let now = c.put_message.new.self in
    let post = (c.get_mut.follows.holds now).3 (search rules) in
    let was = sym (c.in-Some.ensures {u = tt}).value in
    let name = c.args.name.now in
    let old = c.args.by_name.now.entries in
    let new = (c.get_mut.follows.lender now).entries in
    folder_data_changed name old new c.in-Some.folder.now now (subst (λ n. find_folder n old ≡ Some c.in-Some.folder.now) c.as_bytes.ensures was)
    (folder_changed name c.as_bytes.result.now c.as_bytes.ensures old new post.3 (Some now) post.1)
    tag_data_in (λ (b : Bool) i (x : Option MessageTagData). cond (b && same_id i c.args.version.id) (Some (message_tag_data c.args.origin.now c.args.version.flags)) x) (λ i x. refl) (λ i. c.put_message.ensures.tag_data i)

pub returns-clause-room : goal.returns-clause-room
returns-clause-room c =
    let now = c.put_message.new.self in
    let post = (c.get_mut.follows.holds now).3 (search rules) in
    let was = sym (c.in-Some.ensures {u = tt}).value in
    let name = c.args.name.now in
    let old = c.args.by_name.now.entries in
    let new = (c.get_mut.follows.lender now).entries in
    room_left name old new c.in-Some.folder.now now (subst (λ n. find_folder n old ≡ Some c.in-Some.folder.now) c.as_bytes.ensures was)
    (folder_changed name c.as_bytes.result.now c.as_bytes.ensures old new post.3 (Some now) post.1)
    (Some c.args.origin.now) (vec_capacity c.args.list) c.put_message.ensures.room (λ o n h t. c.put_message.ensures.versions o n h t)
