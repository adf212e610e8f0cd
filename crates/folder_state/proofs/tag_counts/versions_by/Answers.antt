use Rattle.std.proofs.Common.{◌≡◌, ◌∙◌, ◌+◌, ℕ, arith, cond, ap}
use Rattle.crdt_ops.specs.SortedSets.{is_some_id}
use Rattle.folder_state.specs.OpRoom.{count_at, origin_of_op}
use Rattle.folder_state.proofs.Counting.{added_version_count_step, versions_done}
use Rattle.folder_state.proofs.tag_counts.versions_by.Goals as goal

pub loop-op-preserved : goal.loop-op-preserved
loop-op-preserved c = λ name.
    let op = c.op-item.result in
    let now = c.loop-op.invariant name in
    let step = added_version_count_step c.args.ops.now c.loop-op.op-index op c.loop-op-test.true c.op-item.is name in
    let more : ◌≡◌ {A = ℕ} (count_at name c.count_version.new.counts.entries) (cond (is_some_id name (origin_of_op op.id op.kind)) 1 0 + count_at name c.loop-op.counts.entries) =
    c.in_ok-count_version.ensures {u = tt} name ∙ ap (λ o. cond (is_some_id name (origin_of_op o.id o.kind)) 1 0 + count_at name c.loop-op.counts.entries) c.op.ensures.op in
    omega (arith, now, step, more)

pub returns : goal.returns
returns c = λ name. versions_done c.args.ops.now c.loop-op.op-index (count_at name c.loop-op.counts.entries) name c.loop-op-test.false (c.loop-op.invariant name)
