use Rattle.std.proofs.Common.{sym, rules}
use Rattle.uid_projection.proofs.ListLemmas.{grows_pushed, grows_twice}
use Rattle.uid_projection.proofs.touched_origins.list_id.Goals as goal

pub returns-clause-grows : goal.returns-clause-grows
returns-clause-grows c =
    let post = (c.get_mut.follows.holds c.push.new.ids).3 (search rules) in
    grows_twice _ c.touch.new.versions.entries _ c.touch.ensures.grows
    (grows_pushed c.args.origin.now c.touch.new.versions.entries _ c.in-Some.ids.now c.push.new.ids post.3 (sym (c.in-Some.ensures {u = tt}).value) post.1 c.push.ensures.retained)
