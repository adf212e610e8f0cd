use Rattle.std.proofs.Common.{◌∷◌, subst, sym}
use Rattle.imap_node.specs.Nodes.{NodeWithRoom, NodeState}
use Rattle.merge_laws.specs.Orders.{IsIn}
use Rattle.world_core.specs.Exchanges.{AreAmong, HasNotTaken}
use Rattle.world_core.specs.Replicas.{all_without_room}
use Rattle.world_core.specs.Settlement.{IsReceivedBy}
use Rattle.world_core.proofs.ExchangeLemmas.{if_err_of_equal, hub_agrees, hub_short, hub_takes, hub_takes_none, other_given, state_at, within_grown}
use Rattle.world_core.proofs.PlaceLemmas.{all_more, take_whole}
use Rattle.world_core.proofs.TakeLemmas.{each_state}
use Rattle.world_core.proofs.settlement.collect.Goals as goal

pub loop-other-init : goal.loop-other-init
loop-other-init c = record { takes = hub_takes_none c.args.hub.now.state (all_without_room c.args.others.now); quiet = c.requires.quiet; done = λ entry i. absurd i }

pub deliver_applied-requires-clause-agreed : goal.deliver_applied-requires-clause-agreed
deliver_applied-requires-clause-agreed c =
    hub_agrees (IsReceivedBy (c.args.hub.now.state ∷ all_without_room c.args.others.now)) (λ o. IsIn o c.other-item.result.state.applied) c.args.hub.now.state c.loop-other.hub.state c.loop-other.invariant.takes
    (other_given c.args.hub.now.state (all_without_room c.args.others.now) c.other-item.result.state (state_at c.args.others.now c.loop-other.other-index c.other-item.result c.loop-other-test.true c.other-item.is)) c.requires.agreed

pub deliver_applied-requires-clause-quiet : goal.deliver_applied-requires-clause-quiet
deliver_applied-requires-clause-quiet c = c.loop-other.invariant.quiet

pub loop-other-preserved : goal.loop-other-preserved
loop-other-preserved c = record {
  takes = hub_takes (IsReceivedBy (c.args.hub.now.state ∷ all_without_room c.args.others.now)) (λ o. IsIn o c.other-item.result.state.applied) c.args.hub.now.state c.loop-other.hub.state c.loop-other.invariant.takes
      (other_given c.args.hub.now.state (all_without_room c.args.others.now) c.other-item.result.state (state_at c.args.others.now c.loop-other.other-index c.other-item.result c.loop-other-test.true c.other-item.is))
      c.deliver_applied.new.to.state c.deliver_applied.ensures.takes;
  quiet = c.in_ok-deliver_applied.ensures.ok.0;
  done = all_more (λ (k : NodeWithRoom). AreAmong k.state.applied c.deliver_applied.new.to.state.applied) c.args.others.now c.loop-other.other-index c.other-item.result c.loop-other-test.true c.other-item.is
      (λ k j. within_grown k.state.applied c.loop-other.hub.state.applied c.deliver_applied.new.to.state.applied (c.loop-other.invariant.done k j) c.deliver_applied.ensures.takes.grown) c.in_ok-deliver_applied.ensures.ok.1;
}

pub returns-in_err-deliver_applied-clause-short : goal.returns-in_err-deliver_applied-clause-short
returns-in_err-deliver_applied-clause-short c =
    if_err_of_equal c.from_residual.result _ (λ f. HasNotTaken (IsReceivedBy (c.args.hub.now.state ∷ all_without_room c.args.others.now)) f c.deliver_applied.new.to.state) c.from_residual.ensures.1
    (hub_short (IsReceivedBy (c.args.hub.now.state ∷ all_without_room c.args.others.now)) (λ o. IsIn o c.other-item.result.state.applied) c.args.hub.now.state c.loop-other.hub.state c.loop-other.invariant.takes
    (other_given c.args.hub.now.state (all_without_room c.args.others.now) c.other-item.result.state (state_at c.args.others.now c.loop-other.other-index c.other-item.result c.loop-other-test.true c.other-item.is))
    c.deliver_applied.new.to.state _ c.in_err-deliver_applied.ensures.short)

pub returns-in_err-deliver_applied-clause-takes : goal.returns-in_err-deliver_applied-clause-takes
returns-in_err-deliver_applied-clause-takes c =
    hub_takes (IsReceivedBy (c.args.hub.now.state ∷ all_without_room c.args.others.now)) (λ o. IsIn o c.other-item.result.state.applied) c.args.hub.now.state c.loop-other.hub.state c.loop-other.invariant.takes
    (other_given c.args.hub.now.state (all_without_room c.args.others.now) c.other-item.result.state (state_at c.args.others.now c.loop-other.other-index c.other-item.result c.loop-other-test.true c.other-item.is))
    c.deliver_applied.new.to.state c.deliver_applied.ensures.takes

pub returns-clause-ok : goal.returns-clause-ok
returns-clause-ok c = (
  c.loop-other.invariant.quiet,
  each_state (λ (n : NodeState). AreAmong n.applied c.loop-other.hub.state.applied) c.args.others.now (λ entry i. c.loop-other.invariant.done entry (subst (IsIn entry) (sym (take_whole c.args.others.now c.loop-other.other-index c.loop-other-test.false)) i)),
)
