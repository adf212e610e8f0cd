use Rattle.std.proofs.Common.{◌∙◌, ◌||◌, sym}
use Rattle.uid_projection.specs.ChartTable.{origin_at}
use Rattle.uid_projection.specs.TouchedMessages.{names_message}
use Rattle.std.specs.List.{list_any}
use Rattle.std.proofs.Common.{take}
use Rattle.uid_projection.proofs.MovedEntryLemmas.{any_take_next}
use Rattle.uid_projection.proofs.NamedLemmas.{adds_alike, adds_both}
use Rattle.uid_projection.proofs.touched_messages.uids_of_named_messages.Goals as goal

pub loop-op-preserved : goal.loop-op-preserved
loop-op-preserved c =
    let f = origin_at c.args.chart.now.versions.entries in
    let i = c.loop-op.op-index in
    adds_alike _ _ _ _ _
    (λ g.
    (λ j. list_any (names_message f c.args.folder.now g) (take i c.args.ops.now) || names_message f c.args.folder.now g (c.op.ensures.op j))
    ∙ sym (any_take_next (names_message f c.args.folder.now g) c.args.ops.now i c.op-item.result c.loop-op-test.true c.op-item.is))
    (adds_both _ _ _ _ _ _ c.loop-op.invariant (c.in_ok-push_named_uids.ensures {u = tt}))
