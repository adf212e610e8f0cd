use Rattle.std.proofs.Common.{◌≡◌, ◌∙◌, ◌≤◌, ◌+◌, Option, None, Some, length, rules, arith, ap, sym, subst}
use Rattle.std.specs.Global.{Vec}
use Rattle.std.specs.Map.{lookup}
use Rattle.std.specs.Vec.{vec_capacity}
use Rattle.indexmap.specs.IndexMap.{spare}
use Rattle.crdt_ops.specs.SortedSets.{same_id}
use Rattle.imap_types.specs.declared.version.Version.{Version}
use Rattle.folder_state.specs.OpRoom.{AreRoomierLists}
use Rattle.folder_state.proofs.Counting.{on_ok_by}
use Rattle.folder_state.proofs.Lenses.{same_turned, some_is}
use Rattle.folder_state.proofs.MoreRoomLemmas.{roomier_lists, roomier_now}
use Rattle.folder_state.proofs.op_room.reserve_versions.Goals as goal

pub returns-in-Some-clause-roomier : goal.returns-in-Some-clause-roomier
returns-in-Some-clause-roomier c =
    let now = c.reserve.new.self in
    let post = (c.get_mut.follows.holds now).3 (search rules) in
    let more : vec_capacity c.in-Some.list.now ≤ vec_capacity now = search rules in
    roomier_now c.args.origin.now c.args.messages.now.entries (c.get_mut.follows.lender now).entries c.in-Some.list.now now (sym (c.in-Some.ensures {u = tt}).value) post.1
    (λ o f. post.2 o (same_turned c.args.origin.now o ∙ f)) c.reserve.ensures.items more

pub returns-in-Some-clause-ok : goal.returns-in-Some-clause-ok
returns-in-Some-clause-ok c =
    let now = c.reserve.new.self in
    let post = (c.get_mut.follows.holds now).3 (search rules) in
    on_ok_by c.reserve.result (λ h vs e.
    let same : now ≡ vs = some_is now vs (sym post.1 ∙ e) in
    subst (λ (xs : Vec Version). length xs.items + c.args.versions ≤ vec_capacity xs) same h) (search rules)

pub returns-in-Some-clause-spare : goal.returns-in-Some-clause-spare
returns-in-Some-clause-spare c = let same = (c.get_mut.follows.holds c.reserve.new.self).6 in omega (arith, same)

pub returns-in-None-clause-roomier : goal.returns-in-None-clause-roomier
returns-in-None-clause-roomier c = subst (λ m. AreRoomierLists c.args.messages.now.entries m.entries) (sym c.get_mut.follows.holds-at-none) (roomier_lists c.args.messages.now.entries)

pub returns-in-None-clause-ok : goal.returns-in-None-clause-ok
returns-in-None-clause-ok c = λ vs e.
    let none : lookup (same_id c.args.origin.now) c.args.messages.now.entries ≡ None = sym (c.in-None.ensures {u = tt}).value in
    let k : ◌≡◌ {A = Option (Vec Version)} None (Some vs) = sym none ∙ sym (ap (λ m. lookup (same_id c.args.origin.now) m.entries) c.get_mut.follows.holds-at-none) ∙ e in
    absurd cc

pub returns-in-None-clause-spare : goal.returns-in-None-clause-spare
returns-in-None-clause-spare c = subst (λ m. spare c.args.messages.now ≤ spare m) (sym c.get_mut.follows.holds-at-none) (omega arith)
