use Rattle.std.proofs.Common.{List, ◌∙◌, subst, sym}
use Rattle.std.proofs.lemmas.List.{nil_from_length}
use Rattle.crdt_ops.specs.declared.op.Op.{Op}
use Rattle.merge_laws.specs.Orders.{IsIn}
use Rattle.world_core.specs.Exchanges.{HasNotTaken, IsReceivedOrOneOf}
use Rattle.world_core.proofs.ExchangeLemmas.{if_err_of_equal}
use Rattle.world_core.proofs.TakeLemmas.{Delivered, agrees_next, causes_next, delivered_all, delivered_next, delivered_none, short_next, takes_next}
use Rattle.world_core.proofs.settlement.deliver_all.Goals as goal

pub loop-op-init : goal.loop-op-init
loop-op-init c =
    subst (λ (rest : List Op). Delivered c.args.node.now.state c.args.ops.items rest c.args.node.now.state) (sym c.into_iter-op-iterator.ensures.into_iter_gives.0)
    (delivered_none c.args.node.now.state c.args.ops.items c.requires.quiet)

pub deliver-requires-clause-agreed : goal.deliver-requires-clause-agreed
deliver-requires-clause-agreed c =
    let d = subst (λ (rest : List Op). Delivered c.args.node.now.state c.args.ops.items rest c.loop-op.node.state) ((c.in-Some.ensures {u = tt}).steps.0) c.loop-op.invariant in
    agrees_next c.args.node.now.state c.args.ops.items c.next.new.self.rest.items c.in-Some.op c.loop-op.node.state d c.requires.agreed

pub deliver-requires-clause-causes : goal.deliver-requires-clause-causes
deliver-requires-clause-causes c =
    let d = subst (λ (rest : List Op). Delivered c.args.node.now.state c.args.ops.items rest c.loop-op.node.state) ((c.in-Some.ensures {u = tt}).steps.0) c.loop-op.invariant in
    causes_next c.args.node.now.state c.args.ops.items c.next.new.self.rest.items c.in-Some.op c.loop-op.node.state d c.requires.causes

pub deliver-requires-clause-quiet : goal.deliver-requires-clause-quiet
deliver-requires-clause-quiet c = c.loop-op.invariant.quiet

pub loop-op-preserved : goal.loop-op-preserved
loop-op-preserved c =
    let d = subst (λ (rest : List Op). Delivered c.args.node.now.state c.args.ops.items rest c.loop-op.node.state) ((c.in-Some.ensures {u = tt}).steps.0) c.loop-op.invariant in
    delivered_next c.args.node.now.state c.args.ops.items c.next.new.self.rest.items c.in-Some.op c.loop-op.node.state d c.deliver.new.node.state c.deliver.ensures.takes c.in_ok-deliver.ensures.ok.0 c.in_ok-deliver.ensures.ok.1

pub returns-in_err-deliver-clause-short : goal.returns-in_err-deliver-clause-short
returns-in_err-deliver-clause-short c =
    let d = subst (λ (rest : List Op). Delivered c.args.node.now.state c.args.ops.items rest c.loop-op.node.state) ((c.in-Some.ensures {u = tt}).steps.0) c.loop-op.invariant in
    if_err_of_equal c.from_residual.result _ (λ f. HasNotTaken (IsReceivedOrOneOf c.args.node.now.state (λ o. IsIn o c.args.ops.items)) f c.deliver.new.node.state) c.from_residual.ensures.1
    (short_next c.args.node.now.state c.args.ops.items c.next.new.self.rest.items c.in-Some.op c.loop-op.node.state d c.deliver.new.node.state _ c.in_err-deliver.ensures.short)

pub returns-in_err-deliver-clause-takes : goal.returns-in_err-deliver-clause-takes
returns-in_err-deliver-clause-takes c =
    let d = subst (λ (rest : List Op). Delivered c.args.node.now.state c.args.ops.items rest c.loop-op.node.state) ((c.in-Some.ensures {u = tt}).steps.0) c.loop-op.invariant in
    takes_next c.args.node.now.state c.args.ops.items c.next.new.self.rest.items c.in-Some.op c.loop-op.node.state d c.deliver.new.node.state c.deliver.ensures.takes

pub returns-clause-ok : goal.returns-clause-ok
returns-clause-ok c = (
  c.loop-op.invariant.quiet,
  delivered_all c.args.node.now.state c.args.ops.items c.loop-op.op-iterator.rest.items c.loop-op.node.state c.loop-op.invariant
      (nil_from_length c.loop-op.op-iterator.rest.items (sym c.loop-op.op-iterator.rest.ok.0 ∙ (c.in-None.ensures {u = tt}).steps.0)),
)
