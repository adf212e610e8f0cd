use Rattle.std.proofs.Common.{Some, sym, rules}
use Rattle.subs_state.specs.declared.subs_table.NameTags.{NameTags}
use Rattle.subs_state.proofs.TableLemmas.{room_preserved, tags_same}
use Rattle.subs_state.proofs.subs_table.make_room_for.Goals as goal

pub returns-in-Some-clause-listed : goal.returns-in-Some-clause-listed
returns-in-Some-clause-listed c =
    let now : NameTags = record { ids = c.reserve.new.self } in
    let post = (c.get_mut.follows.holds now).3 (search rules) in
    let was = sym (c.in-Some.ensures {u = tt}).value in
    tags_same c.args.name.now c.args.tags.now.entries (c.get_mut.follows.lender now).entries (Some c.in-Some.name_tags.now) (Some now) post.3 was post.1 c.reserve.ensures.keys

pub returns-in-Some-clause-room : goal.returns-in-Some-clause-room
returns-in-Some-clause-room c =
    let now : NameTags = record { ids = c.reserve.new.self } in
    let post = (c.get_mut.follows.holds now).3 (search rules) in
    let was = sym (c.in-Some.ensures {u = tt}).value in
    room_preserved c.args.name.now c.args.tags.now.entries (c.get_mut.follows.lender now).entries (Some c.in-Some.name_tags.now) (Some now) post.3 was post.1 c.reserve.ensures.room.0
