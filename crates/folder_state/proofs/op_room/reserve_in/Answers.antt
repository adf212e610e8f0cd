use Rattle.std.proofs.Common.{Some, rules, sym, subst}
use Rattle.folder_state.specs.OpRoom.{AreRoomier}
use Rattle.folder_state.proofs.Counting.{on_ok_by}
use Rattle.folder_state.proofs.Lenses.{folder_changed}
use Rattle.folder_state.proofs.MoreRoomLemmas.{places_without_messages, roomier_at}
use Rattle.folder_state.proofs.op_room.reserve_in.Goals as goal

pub returns-in-Some-clause-roomier : goal.returns-in-Some-clause-roomier
returns-in-Some-clause-roomier c =
    let now = c.reserve.new.self in
    let post = (c.get_mut.follows.holds now).3 (search rules) in
    let name = c.args.name.now in
    let old = c.args.by_name.now.entries in
    let new = (c.get_mut.follows.lender now).entries in
    roomier_at name old new (Some c.in-Some.folder.now) (Some now) (sym (c.in-Some.ensures {u = tt}).value) (folder_changed name name (λ k. name) old new post.3 (Some now) post.1) c.reserve.ensures.roomier

pub returns-in-Some-clause-ok : goal.returns-in-Some-clause-ok
returns-in-Some-clause-ok c =
    let now = c.reserve.new.self in
    let post = (c.get_mut.follows.holds now).3 (search rules) in
    on_ok_by c.reserve.result (λ h. (now, post.1, h.0, h.1)) c.reserve.ensures.ok

pub returns-in-None-clause-roomier : goal.returns-in-None-clause-roomier
returns-in-None-clause-roomier c = subst (λ m. AreRoomier m.entries c.put_folder.new.by_name.entries) c.get_mut.follows.holds-at-none c.put_folder.ensures.roomier

pub returns-in-None-clause-ok : goal.returns-in-None-clause-ok
returns-in-None-clause-ok c = on_ok_by c.put_folder.result (λ h. (h.0, h.1, h.2, places_without_messages h.0 c.args.origin.now c.args.versions h.3)) c.put_folder.ensures.ok
