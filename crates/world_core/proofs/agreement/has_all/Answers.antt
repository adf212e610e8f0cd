use Rattle.std.proofs.Common.{refl, sym, subst}
use Rattle.crdt_ops.specs.declared.op.Op.{Op}
use Rattle.merge_laws.specs.Orders.{IsIn}
use Rattle.world_core.proofs.PlaceLemmas.{all_more, in_at, take_whole}
use Rattle.world_core.proofs.agreement.has_all.Goals as goal

pub returns-then-not-has-clause-no : goal.returns-then-not-has-clause-no
returns-then-not-has-clause-no c = λ t all. c.has.ensures.no c.if-not-has.true (all _ (in_at c.args.ops.now c.loop-op.op-index _ _ c.loop-op-test.true c.op-item.is refl))

pub loop-op-preserved : goal.loop-op-preserved
loop-op-preserved c = all_more (λ (o : Op). IsIn o c.args.others.now) c.args.ops.now c.loop-op.op-index _ c.loop-op-test.true c.op-item.is c.loop-op.invariant (c.has.ensures.yes c.if-not-has.false)

pub returns-clause-yes : goal.returns-clause-yes
returns-clause-yes c = λ t o i. c.loop-op.invariant o (subst (IsIn o) (sym (take_whole c.args.ops.now c.loop-op.op-index c.loop-op-test.false)) i)
