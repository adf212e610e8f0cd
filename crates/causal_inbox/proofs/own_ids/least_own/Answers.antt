use Rattle.causal_inbox.proofs.OwnLemmas.{least_next}
use Rattle.causal_inbox.proofs.own_ids.least_own.Goals as goal

pub loop-op-preserved : goal.loop-op-preserved
loop-op-preserved g c =
    least_next g.O.Caused.id c.args.name c.args.ops.now c.loop-op.op-index c.op-item.result c.id.result c.loop-op.least c.take_lesser_own.new.least c.loop-op-test.true c.op-item.is c.loop-op.invariant c.id.ensures c.take_lesser_own.ensures
