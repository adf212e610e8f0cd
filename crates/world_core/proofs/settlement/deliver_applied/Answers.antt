use Rattle.merge_laws.specs.Orders.{IsIn}
use Rattle.world_core.specs.Exchanges.{IsReceivedOrOneOf}
use Rattle.world_core.proofs.ExchangeLemmas.{on_err, on_ok}
use Rattle.world_core.proofs.TakeLemmas.{not_taken_weaker, ops_agree, ops_applied, ops_causes, ops_received, takes_weaker}
use Rattle.world_core.proofs.settlement.deliver_applied.Goals as goal

pub deliver_all-requires-clause-agreed : goal.deliver_all-requires-clause-agreed
deliver_all-requires-clause-agreed c = ops_agree c.args.from.now.state c.args.to.now.state c.clock.result.now c.in-Ok.ops.items (c.in-Ok.ensures {u = tt}) c.requires.agreed

pub deliver_all-requires-clause-causes : goal.deliver_all-requires-clause-causes
deliver_all-requires-clause-causes c = ops_causes c.args.from.now.state c.args.to.now.state c.clock.result.now c.in-Ok.ops.items (c.in-Ok.ensures {u = tt}) c.op_list-applied.ensures.orderly c.clock.ensures

pub returns-in-Ok-clause-ok : goal.returns-in-Ok-clause-ok
returns-in-Ok-clause-ok c = on_ok c.deliver_all.result (λ ok. (
  ok.0,
  ops_applied c.args.from.now.state c.args.to.now.state c.clock.result.now c.in-Ok.ops.items (c.in-Ok.ensures {u = tt}) c.deliver_all.new.node.state c.clock.ensures c.requires.agreed c.deliver_all.ensures.takes.grown ok.1,
)) c.deliver_all.ensures.ok

pub returns-in-Ok-clause-short : goal.returns-in-Ok-clause-short
returns-in-Ok-clause-short c = on_err c.deliver_all.result (λ f s. not_taken_weaker (IsReceivedOrOneOf c.args.to.now.state (λ o. IsIn o c.in-Ok.ops.items)) (IsReceivedOrOneOf c.args.to.now.state (λ o. IsIn o c.args.from.now.state.applied)) c.deliver_all.new.node.state f s
    (ops_received c.args.from.now.state c.args.to.now.state c.clock.result.now c.in-Ok.ops.items (c.in-Ok.ensures {u = tt}))) c.deliver_all.ensures.short

pub returns-in-Ok-clause-takes : goal.returns-in-Ok-clause-takes
returns-in-Ok-clause-takes c = takes_weaker (IsReceivedOrOneOf c.args.to.now.state (λ o. IsIn o c.in-Ok.ops.items)) (IsReceivedOrOneOf c.args.to.now.state (λ o. IsIn o c.args.from.now.state.applied)) c.args.to.now.state c.deliver_all.new.node.state c.deliver_all.ensures.takes
    (ops_received c.args.from.now.state c.args.to.now.state c.clock.result.now c.in-Ok.ops.items (c.in-Ok.ensures {u = tt}))
