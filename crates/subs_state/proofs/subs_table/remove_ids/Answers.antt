use Rattle.std.proofs.Common.{◌∙◌, ◌≤◌, ℕ, List, Some, ap, subst, sym, rules, arith}
use Rattle.std.specs.Global.{Vec}
use Rattle.subs_state.specs.declared.subs_table.NameTags.{NameTags}
use Rattle.subs_state.specs.Entries.{room_of, tag_in}
use Rattle.subs_state.proofs.TableLemmas.{tag_in_after_removal, tags_absent, room_preserved}
use Rattle.subs_state.proofs.subs_table.remove_ids.Goals as goal

pub returns-in-Some-clause-listed : goal.returns-in-Some-clause-listed
returns-in-Some-clause-listed c =
    let now = c.remove_matching_ids.new.name_tags in
    let post = (c.get_mut.follows.holds now).3 (search rules) in
    let was = sym (c.in-Some.ensures {u = tt}).value in
    tag_in_after_removal c.args.name.now c.args.ids.now c.args.tags.now.entries (c.get_mut.follows.lender now).entries (Some c.in-Some.name_tags.now) (Some now) post.3 was post.1 c.remove_matching_ids.ensures.listed

pub returns-in-Some-clause-room : goal.returns-in-Some-clause-room
returns-in-Some-clause-room c =
    let now = c.remove_matching_ids.new.name_tags in
    let post = (c.get_mut.follows.holds now).3 (search rules) in
    let was = sym (c.in-Some.ensures {u = tt}).value in
    room_preserved c.args.name.now c.args.tags.now.entries (c.get_mut.follows.lender now).entries (Some c.in-Some.name_tags.now) (Some now) post.3 was post.1 c.remove_matching_ids.ensures.room

pub returns-in-None-clause-listed : goal.returns-in-None-clause-listed
returns-in-None-clause-listed c = λ n i.
    ap (λ (tags : List (Vec ℕ × NameTags)). tag_in tags n i) (ap (λ m. m.entries) c.get_mut.follows.holds-at-none)
    ∙ tags_absent c.args.name.now c.args.ids.now c.args.tags.now.entries (sym (c.in-None.ensures {u = tt}).value) n i

pub returns-in-None-clause-room : goal.returns-in-None-clause-room
returns-in-None-clause-room c = λ n.
    subst (λ (tags : List (Vec ℕ × NameTags)). room_of n c.args.tags.now.entries ≤ room_of n tags) (sym (ap (λ m. m.entries) c.get_mut.follows.holds-at-none)) (omega arith)
