use Rattle.std.proofs.Common.{◌≤◌, ℕ, subst}
use Rattle.std.specs.Vec.{vec_capacity}
use Rattle.tags_clocks.specs.declared.id.OpId.{OpId}
use Rattle.crdt_ops.specs.declared.op.Op.{Op}
use Rattle.folder_state.specs.OpRoom.{count_at, origin_of_op, counts_of}
use Rattle.folder_state.proofs.Counting.{lists_all, lists_one}
use Rattle.folder_state.proofs.op_room.empty_lists.Goals as goal

pub loop-op-preserved : goal.loop-op-preserved
loop-op-preserved c =
    let op = c.op-item.result in
    let made = c.in_ok-empty_list.ensures {u = tt} in
    let list = c.in_ok-empty_list.field-0 in
    let room = subst (λ (o : Op). counts_of (λ i. count_at i c.args.tag_counts.now.versions) (origin_of_op o.id o.kind) ≤ vec_capacity list) c.op.ensures.op made.capacity in
    lists_one c.args.ops.now c.loop-op.op-index op c.loop-op-test.true c.op-item.is c.loop-op.lists.items c.push_back.new.self.items list
    (c.in_ok-push_back.ensures {u = tt}).items made.items
    (subst (λ (w : OpId → ℕ). counts_of w (origin_of_op op.id op.kind) ≤ vec_capacity list) (λ k i. c.requires i k) room)
    c.loop-op.invariant

pub returns : goal.returns
returns c = lists_all c.args.ops.now c.loop-op.op-index c.loop-op.lists.items c.loop-op-test.false c.loop-op.invariant
