use Rattle.std.proofs.Common.{Bor}
use Rattle.crdt_ops.specs.declared.op.Op.{Op}
use Rattle.world_core.proofs.ConflictLemmas.{like_applied, like_held}
use Rattle.world_core.proofs.conflicts.find_received.Goals as goal

pub returns-then-covers : goal.returns-then-covers
returns-then-covers c = like_applied (λ (x : Bor Op). x.now) c.find_in.result c.args.op.now c.args.node.now.state c.op_list-applied.result.now c.clock.result.now c.id.result c.id-then-covers.result
    c.op_list-applied.ensures.orderly c.op_list-applied.ensures.applied c.clock.ensures c.id.ensures c.id-then-covers.ensures (c.covers.ensures.0 c.if-covers.true) c.find_in.ensures

pub returns-else-covers : goal.returns-else-covers
returns-else-covers c = like_held (λ (x : Bor Op). x.now) c.get.result c.args.op.now c.args.node.now.state c.held.result c.clock.result.now c.id.result c.id-else-covers.result
    c.op_list-applied.ensures.orderly c.held.ensures.held c.clock.ensures c.id.ensures c.id-else-covers.ensures (λ k. absurd (let t = c.covers.ensures.1 k in let f = c.if-covers.false in cc (t, f))) c.get.ensures
