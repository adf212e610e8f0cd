use Rattle.std.proofs.Common.{◌≡◌, ◌∙◌, ◌+◌, ℕ, arith, cond, ap}
use Rattle.folder_state.specs.OpRoom.{count_of_name, is_named, target}
use Rattle.folder_state.proofs.Counting.{added_tag_count_step, tags_done}
use Rattle.folder_state.proofs.tag_counts.tags_by.Goals as goal

pub loop-op-preserved : goal.loop-op-preserved
loop-op-preserved c = λ name.
    let op = c.op-item.result in
    let now = c.loop-op.invariant name in
    let step = added_tag_count_step c.args.ops.now c.loop-op.op-index op c.loop-op-test.true c.op-item.is name in
    let more : ◌≡◌ {A = ℕ} (count_of_name name c.count_tag.new.counts.entries) (cond (is_named name (target op.kind)) 1 0 + count_of_name name c.loop-op.counts.entries) =
    c.in_ok-count_tag.ensures {u = tt} name ∙ ap (λ o. cond (is_named name (target o.kind)) 1 0 + count_of_name name c.loop-op.counts.entries) c.op.ensures.op in
    omega (arith, now, step, more)

pub returns : goal.returns
returns c = λ name. tags_done c.args.ops.now c.loop-op.op-index (count_of_name name c.loop-op.counts.entries) name c.loop-op-test.false (c.loop-op.invariant name)
