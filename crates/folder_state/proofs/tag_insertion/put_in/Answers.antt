use Rattle.std.proofs.Common.{◌+◌, ◌≤◌, arith, rules, cond, ap, sym, subst, ◌∙◌}
use Rattle.std.specs.Map.{lookup}
use Rattle.indexmap.specs.IndexMap.{spare}
use Rattle.crdt_ops.specs.SortedSets.{insert_ordered, same_id}
use Rattle.folder_state.specs.FolderTables.{IsPutIn, by_id, versions_or_none}
use Rattle.folder_state.specs.OpRoom.{HasVersionRoom}
use Rattle.folder_state.proofs.RoomLeftLemmas.{one_fits, put_room}
use Rattle.folder_state.proofs.Lenses.{same_turned}
use Rattle.folder_state.proofs.tag_insertion.put_in.Goals as goal

pub put_to-requires : goal.put_to-requires
put_to-requires c = c.requires.versions c.in-Some.versions.now (sym (c.in-Some.ensures {u = tt}).value)

pub returns-in-Some-clause-put : goal.returns-in-Some-clause-put
returns-in-Some-clause-put c =
    let post = (c.get_mut.follows.holds c.put_to.new.versions).3 (search rules) in
    record {
      here = ap versions_or_none post.1 ∙ c.put_to.ensures.items ∙ ap (insert_ordered by_id c.args.version) (sym (ap versions_or_none (sym (c.in-Some.ensures {u = tt}).value)));
      others = λ o f. post.2 o (same_turned c.args.origin.now o ∙ f);
    }

pub returns-in-Some-clause-room : goal.returns-in-Some-clause-room
returns-in-Some-clause-room c = let same = (c.get_mut.follows.holds c.put_to.new.versions).6 in omega (arith, same)

pub returns-in-Some-clause-versions : goal.returns-in-Some-clause-versions
returns-in-Some-clause-versions c = λ o n h k.
    let now = c.put_to.new.versions in
    let post = (c.get_mut.follows.holds now).3 (search rules) in
    let origin = c.args.origin.now in
    let old = c.args.messages.now.entries in
    put_room o origin n old (c.get_mut.follows.lender now).entries now (λ p f. post.2 p (same_turned origin p ∙ f)) post.1
    (one_fits o origin n old c.args.version c.in-Some.versions.now now (sym (c.in-Some.ensures {u = tt}).value) c.put_to.ensures.items c.put_to.ensures.capacity h) h

pub put_first-requires-clause-none : goal.put_first-requires-clause-none
put_first-requires-clause-none c = ap (λ m. lookup (same_id c.args.origin.now) m.entries) c.get_mut.follows.holds-at-none ∙ sym (c.in-None.ensures {u = tt}).value

pub returns-in-None-clause-put : goal.returns-in-None-clause-put
returns-in-None-clause-put c = subst (λ m. IsPutIn c.args.origin.now c.args.version m.entries c.put_first.new.messages.entries) c.get_mut.follows.holds-at-none c.put_first.ensures.put

pub returns-in-None-clause-room : goal.returns-in-None-clause-room
returns-in-None-clause-room c = subst (λ m. spare m ≤ spare c.put_first.new.messages + 1) c.get_mut.follows.holds-at-none c.put_first.ensures.room

pub returns-in-None-clause-versions : goal.returns-in-None-clause-versions
returns-in-None-clause-versions c = λ o n h k. c.put_first.ensures.versions o n (subst (λ m. HasVersionRoom m.entries o (cond (same_id o c.args.origin.now) 1 0 + n)) (sym c.get_mut.follows.holds-at-none) h) k
