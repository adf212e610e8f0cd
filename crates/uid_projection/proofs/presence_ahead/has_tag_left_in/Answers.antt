use Rattle.std.proofs.Common.{◌<◌, ap, arith, subst, sym, ◌∙◌}
use Rattle.std.proofs.lemmas.Bool.{false≢true}
use Rattle.folder_state.specs.FolderTables.{folder_ids}
use Rattle.uid_projection.specs.TagChanges.{IsStoredTag, is_present_at}
use Rattle.uid_projection.proofs.IdLemmas.{place_of}
use Rattle.uid_projection.proofs.presence_ahead.has_tag_left_in.Goals as goal

pub returns-clause-no : goal.returns-clause-no
returns-clause-no c = λ _ i stored t.
    let w = place_of i (folder_ids c.args.folder.now) ((c.count-place-end.ensures.tags i).1 (subst (λ f. IsStoredTag f i) c.requires stored)) in
    let l = w.1 in
    let n = c.count-place-end.ensures.ids in
    let front : w.0 < c.loop-place.place = omega (arith, l, n) in
    false≢true (sym (c.loop-place.invariant w.0 front) ∙ ap (is_present_at c.args.tags.now.entries c.args.messages.now) w.2 ∙ t)
