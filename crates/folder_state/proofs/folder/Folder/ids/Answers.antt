use Rattle.std.proofs.Common.{◌∙◌, ◌++◌, ◌≤◌, [], sym, subst}
use Rattle.std.specs.List.{cons_option}
use Rattle.std.proofs.lemmas.List.{take_all}
use Rattle.folder_state.specs.FolderTables.{folder_ids}
use Rattle.folder_state.proofs.Listing.{take_next_some}
use Rattle.folder_state.proofs.folder.Folder.ids.Goals as goal

pub loop-place-preserved : goal.loop-place-preserved
loop-place-preserved c =
    let all = folder_ids c.args.self.now in
    c.in_ok-push_if_some.ensures {u = tt} ∙ (λ k. c.loop-place.invariant k ++ cons_option (c.id_at.ensures k) []) ∙ sym (take_next_some all c.loop-place.place)

pub returns-clause-ids : goal.returns-clause-ids
returns-clause-ids c =
    let all = folder_ids c.args.self.now in
    c.loop-place.invariant ∙ take_all c.loop-place.place all (subst (λ n. n ≤ c.loop-place.place) c.count-count.ensures.ids c.loop-place-test.false)
