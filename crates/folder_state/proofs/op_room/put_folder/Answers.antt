use Rattle.std.proofs.Common.{◌≡◌, ◌∙◌, None, Some, rules, sym, subst}
use Rattle.folder_state.specs.FolderTables.{find_folder}
use Rattle.folder_state.specs.OpRoom.{IsRoomierIn}
use Rattle.folder_state.proofs.Lenses.{folder_changed, on_err, on_ok}
use Rattle.folder_state.proofs.MoreRoomLemmas.{roomier_at, roomier_in}
use Rattle.folder_state.proofs.op_room.put_folder.Goals as goal

pub returns-clause-roomier : goal.returns-clause-roomier
returns-clause-roomier c =
    let key = c.in_ok-key.key in
    let e : key.items ≡ c.args.name.now = search rules in
    let post = on_ok c.insert.result (sym c.is_err.ensures.value ∙ c.if-is_err.false) c.insert.ensures.updates in
    let old = c.args.by_name.now.entries in
    let new = c.insert.new.self.entries in
    let folder = c.in_ok-folder.folder in
    roomier_at c.args.name.now old new None (Some folder) c.requires (folder_changed c.args.name.now key.items e old new post.3 (Some folder) post.1)
    (c.in_ok-folder.ensures {u = tt}).empty

pub returns-clause-ok : goal.returns-clause-ok
returns-clause-ok c =
    let key = c.in_ok-key.key in
    let e : key.items ≡ c.args.name.now = search rules in
    let post = on_ok c.insert.result (sym c.is_err.ensures.value ∙ c.if-is_err.false) c.insert.ensures.updates in
    let made = c.in_ok-folder.ensures {u = tt} in
    (c.in_ok-folder.folder, subst (λ n. find_folder n c.insert.new.self.entries ≡ Some c.in_ok-folder.folder) e post.1, made.room, made.empty.1)

pub returns-then-is_err-clause-roomier : goal.returns-then-is_err-clause-roomier
returns-then-is_err-clause-roomier c = λ f.
    let same = on_err c.insert.result (sym c.is_err.ensures.value ∙ c.if-is_err.true) c.insert.ensures.err in
    subst (λ es. IsRoomierIn (find_folder f c.args.by_name.now.entries) (find_folder f es)) (sym same) (roomier_in (find_folder f c.args.by_name.now.entries))
