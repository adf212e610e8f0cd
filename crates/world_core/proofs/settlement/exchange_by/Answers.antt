use Rattle.std.proofs.Common.{◌∷◌}
use Rattle.world_core.specs.Exchanges.{OneHasNotTaken}
use Rattle.world_core.specs.Replicas.{all_without_room}
use Rattle.world_core.proofs.ExchangeLemmas.{after_hub, after_others, first_hub, if_err_of_equal, others_more, short_hub, short_more_others, short_others}
use Rattle.world_core.proofs.SettleLemmas.{ends}
use Rattle.world_core.proofs.TakeLemmas.{agreed_on}
use Rattle.world_core.proofs.settlement.exchange_by.Goals as goal

pub returns-in_err-release-clause-takes : goal.returns-in_err-release-clause-takes
returns-in_err-release-clause-takes c = first_hub c.args.hub.now.state (all_without_room c.args.others.now) c.release.new.node.state c.release.ensures.takes

pub returns-in_err-release_all-clause-short : goal.returns-in_err-release_all-clause-short
returns-in_err-release_all-clause-short c =
    if_err_of_equal c.from_residual-in_err-release_all.result _ (λ f. OneHasNotTaken (c.args.hub.now.state ∷ all_without_room c.args.others.now) f (c.release.new.node.state ∷ all_without_room c.release_all.new.nodes)) c.from_residual-in_err-release_all.ensures.1
    (short_others (c.args.hub.now.state ∷ all_without_room c.args.others.now) c.release.new.node.state (all_without_room c.args.others.now) (first_hub c.args.hub.now.state (all_without_room c.args.others.now) c.release.new.node.state c.release.ensures.takes)
    (all_without_room c.release_all.new.nodes) _ (short_more_others c.release.new.node.state (all_without_room c.args.others.now) (all_without_room c.release_all.new.nodes) _ c.in_err-release_all.ensures.short))

pub returns-in_err-release_all-clause-takes : goal.returns-in_err-release_all-clause-takes
returns-in_err-release_all-clause-takes c =
    after_others (c.args.hub.now.state ∷ all_without_room c.args.others.now) c.release.new.node.state (all_without_room c.args.others.now) (first_hub c.args.hub.now.state (all_without_room c.args.others.now) c.release.new.node.state c.release.ensures.takes)
    (all_without_room c.release_all.new.nodes) (others_more c.release.new.node.state (all_without_room c.args.others.now) (all_without_room c.release_all.new.nodes) c.release_all.ensures.takes)

pub loop-hub-init : goal.loop-hub-init
loop-hub-init c = record {
  takes = after_others (c.args.hub.now.state ∷ all_without_room c.args.others.now) c.release.new.node.state (all_without_room c.args.others.now) (first_hub c.args.hub.now.state (all_without_room c.args.others.now) c.release.new.node.state c.release.ensures.takes)
      (all_without_room c.release_all.new.nodes) (others_more c.release.new.node.state (all_without_room c.args.others.now) (all_without_room c.release_all.new.nodes) c.release_all.ensures.takes);
  quiet = c.in_ok-release.ensures.ok;
  others_quiet = c.in_ok-release_all.ensures.ok;
}

pub spread-requires-clause-agreed : goal.spread-requires-clause-agreed
spread-requires-clause-agreed c = agreed_on (c.args.hub.now.state ∷ all_without_room c.args.others.now) (c.loop-hub.hub.state ∷ all_without_room c.loop-hub.others) c.loop-hub.invariant.takes c.requires

pub returns-in_err-spread-clause-short : goal.returns-in_err-spread-clause-short
returns-in_err-spread-clause-short c =
    if_err_of_equal c.from_residual-in_err-spread.result _ (λ f. OneHasNotTaken (c.args.hub.now.state ∷ all_without_room c.args.others.now) f (c.loop-hub.hub.state ∷ all_without_room c.spread.new.others)) c.from_residual-in_err-spread.ensures.1
    (short_others (c.args.hub.now.state ∷ all_without_room c.args.others.now) c.loop-hub.hub.state (all_without_room c.loop-hub.others) c.loop-hub.invariant.takes (all_without_room c.spread.new.others) _ c.in_err-spread.ensures.short)

pub returns-in_err-spread-clause-takes : goal.returns-in_err-spread-clause-takes
returns-in_err-spread-clause-takes c =
    after_others (c.args.hub.now.state ∷ all_without_room c.args.others.now) c.loop-hub.hub.state (all_without_room c.loop-hub.others) c.loop-hub.invariant.takes (all_without_room c.spread.new.others) c.spread.ensures.takes

pub collect-requires-clause-agreed : goal.collect-requires-clause-agreed
collect-requires-clause-agreed c =
    agreed_on (c.args.hub.now.state ∷ all_without_room c.args.others.now) (c.loop-hub.hub.state ∷ all_without_room c.spread.new.others)
    (after_others (c.args.hub.now.state ∷ all_without_room c.args.others.now) c.loop-hub.hub.state (all_without_room c.loop-hub.others) c.loop-hub.invariant.takes (all_without_room c.spread.new.others) c.spread.ensures.takes) c.requires

pub returns-in_err-collect-clause-short : goal.returns-in_err-collect-clause-short
returns-in_err-collect-clause-short c =
    if_err_of_equal c.from_residual-in_err-collect.result _ (λ f. OneHasNotTaken (c.args.hub.now.state ∷ all_without_room c.args.others.now) f (c.collect.new.hub.state ∷ all_without_room c.spread.new.others)) c.from_residual-in_err-collect.ensures.1
    (short_hub (c.args.hub.now.state ∷ all_without_room c.args.others.now) c.loop-hub.hub.state (all_without_room c.spread.new.others)
    (after_others (c.args.hub.now.state ∷ all_without_room c.args.others.now) c.loop-hub.hub.state (all_without_room c.loop-hub.others) c.loop-hub.invariant.takes (all_without_room c.spread.new.others) c.spread.ensures.takes)
    c.collect.new.hub.state _ c.in_err-collect.ensures.short)

pub returns-in_err-collect-clause-takes : goal.returns-in_err-collect-clause-takes
returns-in_err-collect-clause-takes c =
    after_hub (c.args.hub.now.state ∷ all_without_room c.args.others.now) c.loop-hub.hub.state (all_without_room c.spread.new.others)
    (after_others (c.args.hub.now.state ∷ all_without_room c.args.others.now) c.loop-hub.hub.state (all_without_room c.loop-hub.others) c.loop-hub.invariant.takes (all_without_room c.spread.new.others) c.spread.ensures.takes)
    c.collect.new.hub.state c.collect.ensures.takes

pub returns-then-op_list-known-clause-takes : goal.returns-then-op_list-known-clause-takes
returns-then-op_list-known-clause-takes c =
    after_hub (c.args.hub.now.state ∷ all_without_room c.args.others.now) c.loop-hub.hub.state (all_without_room c.spread.new.others)
    (after_others (c.args.hub.now.state ∷ all_without_room c.args.others.now) c.loop-hub.hub.state (all_without_room c.loop-hub.others) c.loop-hub.invariant.takes (all_without_room c.spread.new.others) c.spread.ensures.takes)
    c.collect.new.hub.state c.collect.ensures.takes

pub loop-hub-preserved : goal.loop-hub-preserved
loop-hub-preserved c = record {
  takes = after_hub (c.args.hub.now.state ∷ all_without_room c.args.others.now) c.loop-hub.hub.state (all_without_room c.spread.new.others)
      (after_others (c.args.hub.now.state ∷ all_without_room c.args.others.now) c.loop-hub.hub.state (all_without_room c.loop-hub.others) c.loop-hub.invariant.takes (all_without_room c.spread.new.others) c.spread.ensures.takes)
      c.collect.new.hub.state c.collect.ensures.takes;
  quiet = c.in_ok-collect.ensures.ok.0;
  others_quiet = c.in_ok-spread.ensures.ok.0;
}

pub returns-then-op_list-known-clause-ok : goal.returns-then-op_list-known-clause-ok
returns-then-op_list-known-clause-ok c =
    ends (c.args.hub.now.state ∷ all_without_room c.args.others.now) c.loop-hub.hub.state c.collect.new.hub.state (all_without_room c.spread.new.others) c.op_list-known.result.now c.op_list.result.now
    (after_hub (c.args.hub.now.state ∷ all_without_room c.args.others.now) c.loop-hub.hub.state (all_without_room c.spread.new.others)
    (after_others (c.args.hub.now.state ∷ all_without_room c.args.others.now) c.loop-hub.hub.state (all_without_room c.loop-hub.others) c.loop-hub.invariant.takes (all_without_room c.spread.new.others) c.spread.ensures.takes)
    c.collect.new.hub.state c.collect.ensures.takes)
    c.op_list-known.ensures.applied c.op_list.ensures.applied c.if-op_list-known.true c.collect.ensures.takes.grown c.in_ok-collect.ensures.ok.0 c.in_ok-spread.ensures.ok.0 c.in_ok-spread.ensures.ok.1 c.in_ok-collect.ensures.ok.1
    c.op_list.ensures.orderly c.are_orderly.ensures
