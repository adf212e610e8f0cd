use Rattle.std.proofs.Common.{refl}
use Rattle.crdt_ops.proofs.LoopLemmas.{ids_end, ids_ascend_step, ids_stop}
use Rattle.crdt_ops.proofs.ids.is_ascending.Goals as goal

pub loop-rest-init : goal.loop-rest-init
loop-rest-init c = (λ h. h, λ h. h)

pub returns-then-not-is_below_first : goal.returns-then-not-is_below_first
returns-then-not-is_below_first c = ids_stop c.loop-rest.rest.now c.args.ids.now c.first-item.result c.in-len1-up.len_at_least c.first-item.is c.if-not-is_below_first.ensures.1 c.loop-rest.invariant

pub loop-rest-preserved : goal.loop-rest-preserved
loop-rest-preserved c = ids_ascend_step c.loop-rest.rest.now c.args.ids.now c.first-item.result c.in-len1-up.len_at_least c.first-item.is (c.if-not-is_below_first.ensures.0 refl) c.loop-rest.invariant

pub returns : goal.returns
returns c = ids_end c.loop-rest.rest.now c.args.ids.now c.in_default.len_below c.loop-rest.invariant
