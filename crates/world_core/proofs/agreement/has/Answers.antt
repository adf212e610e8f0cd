use Rattle.world_core.proofs.PlaceLemmas.{in_at, not_in_more}
use Rattle.world_core.proofs.agreement.has.Goals as goal

pub returns-then-same-clause-yes : goal.returns-then-same-clause-yes
returns-then-same-clause-yes c = λ t. in_at c.args.ops.now c.loop-other.other-index _ c.args.op.now c.loop-other-test.true c.other-item.is (c.same.ensures.0 c.if-same.true)

pub loop-other-preserved : goal.loop-other-preserved
loop-other-preserved c = not_in_more c.args.ops.now c.loop-other.other-index _ c.args.op.now c.loop-other-test.true c.other-item.is c.loop-other.invariant
    (λ e. absurd (let t = c.same.ensures.1 e in let f = c.if-same.false in cc (t, f)))
