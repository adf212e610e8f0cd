use Rattle.std.proofs.Common.{◌≤◌, ◌<◌, sym, subst}
use Rattle.std.specs.Option.{option_copied}
use Rattle.tags_clocks.specs.declared.id.OpId.{OpId}
use Rattle.folder_state.specs.FolderTables.{ids_in}
use Rattle.folder_state.specs.AfterOps.{contents_of_folder, has_tag_after}
use Rattle.folder_state.proofs.Listing.{list_any_at, passed_all, passed_at}
use Rattle.folder_state.proofs.after_ops.any_stored_left.Goals as goal

pub loop-place-preserved : goal.loop-place-preserved
loop-place-preserved c =
    passed_at (λ (i : OpId). has_tag_after (contents_of_folder (option_copied c.args.table)) c.args.ops.now c.args.folder.now i) (ids_in (option_copied c.args.table)) c.loop-place.place c.is_left_at.result
    (subst (λ n. c.loop-place.place < n) c.count_of_tags-count.ensures.count c.loop-place-test.true) c.is_left_at.ensures c.if-is_left_at.false c.loop-place.invariant

pub returns-then-is_left_at-clause-left : goal.returns-then-is_left_at-clause-left
returns-then-is_left_at-clause-left c =
    sym (list_any_at (λ (i : OpId). has_tag_after (contents_of_folder (option_copied c.args.table)) c.args.ops.now c.args.folder.now i) (ids_in (option_copied c.args.table)) c.loop-place.place c.is_left_at.result c.is_left_at.ensures c.if-is_left_at.true)

pub returns-clause-left : goal.returns-clause-left
returns-clause-left c =
    sym (passed_all (λ (i : OpId). has_tag_after (contents_of_folder (option_copied c.args.table)) c.args.ops.now c.args.folder.now i) (ids_in (option_copied c.args.table)) c.loop-place.place
    (subst (λ n. n ≤ c.loop-place.place) c.count_of_tags-count.ensures.count c.loop-place-test.false) c.loop-place.invariant)
