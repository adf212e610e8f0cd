use Rattle.std.proofs.Common.{◌≡◌, ◌∙◌, List, length, take, refl, ap, arith}
use Rattle.std.proofs.lemmas.List.{take_all}
use Rattle.tags_clocks.specs.declared.id.OpId.{OpId}
use Rattle.crdt_ops.specs.declared.op.Op.{Op}
use Rattle.crdt_ops.specs.Tags.{removed_ids}
use Rattle.uid_projection.specs.ChartTable.{modseqs_of}
use Rattle.uid_projection.proofs.ExhaustionLemmas.{take_op}
use Rattle.uid_projection.proofs.Tables.{modseqs_put}
use Rattle.uid_projection.proofs.chart_room.modseqs_of.Goals as goal

pub loop-op-preserved : goal.loop-op-preserved
loop-op-preserved c =
    let ops = c.args.ops.now in
    let i = c.loop-op.op-index in
    let o = c.op-item.result in
    let next = take_op ops i o o c.loop-op-test.true c.op-item.is refl in
    let before = c.loop-op.invariant in
    let sum = c.in_ok-count.ensures in
    let size : length c.removed_ids.result.now ≡ length (removed_ids o.kind) = ap (λ (ids : List OpId). length ids) c.removed_ids.ensures ∙ ap (λ (q : Op). length (removed_ids q.kind)) c.op.ensures.op in
    let after = ap modseqs_of next ∙ modseqs_put (take i ops) o in
    omega (arith, before, sum, size, after)

pub returns : goal.returns
returns c =
    let stop = c.loop-op-test.false in
    c.loop-op.invariant ∙ ap modseqs_of (take_all c.loop-op.op-index c.args.ops.now (omega (arith, stop)))
