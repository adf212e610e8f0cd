use Rattle.std.proofs.Common.{sym, rules}
use Rattle.subs_state.proofs.TableLemmas.{tag_in_after_put, put_room}
use Rattle.subs_state.proofs.subs_table.put_tag.Goals as goal

pub returns-clause-listed : goal.returns-clause-listed
returns-clause-listed c =
    let now = c.put_id.new.name_tags in
    let post = (c.get_mut.follows.holds now).3 (search rules) in
    let was = sym (c.in-Some.ensures {u = tt}).value in
    tag_in_after_put c.args.name.now c.args.id.now c.args.tags.now.entries (c.get_mut.follows.lender now).entries c.in-Some.name_tags.now now post.3 was post.1 c.put_id.ensures.listed

pub returns-clause-room : goal.returns-clause-room
returns-clause-room c =
    let now = c.put_id.new.name_tags in
    let post = (c.get_mut.follows.holds now).3 (search rules) in
    let was = sym (c.in-Some.ensures {u = tt}).value in
    put_room c.args.name.now c.args.tags.now.entries (c.get_mut.follows.lender now).entries c.in-Some.name_tags.now now post.3 was post.1 c.put_id.ensures.room
