use Rattle.std.proofs.Common.{◌<◌, ◌≤◌, ◌∷◌, length, get_or, set, ap, arith, subst, sym}
use Rattle.imap_node.specs.Nodes.{NodeWithRoom, NodeState}
use Rattle.merge_laws.specs.Orders.{IsIn}
use Rattle.world_core.specs.Exchanges.{AreAmong, IsReceivedOrOneOf, OneHasNotTaken}
use Rattle.world_core.specs.Replicas.{all_without_room}
use Rattle.world_core.specs.Settlement.{IsReceivedBy}
use Rattle.world_core.proofs.ExchangeLemmas.{agree_to, all_take_next, received_to, front_set, if_err_of_equal, hub_given, one_short, others_take_none, quiet_set, state_at, state_set}
use Rattle.world_core.proofs.PlaceLemmas.{take_whole}
use Rattle.world_core.proofs.TakeLemmas.{each_state}
use Rattle.world_core.proofs.settlement.spread.Goals as goal

pub loop-other-init : goal.loop-other-init
loop-other-init c = record { takes = others_take_none c.args.hub.now.state (all_without_room c.args.others.now); quiet = c.requires.quiet; done = λ entry i. absurd i }

pub deliver_applied-requires-clause-agreed : goal.deliver_applied-requires-clause-agreed
deliver_applied-requires-clause-agreed c =
    let now = c.loop-other.others in
    let i = c.loop-other.other-index in
    let l : c.loop-other.other-index < length c.loop-other.others = omega arith in
    agree_to (IsReceivedBy (c.args.hub.now.state ∷ all_without_room c.args.others.now)) (λ o. IsIn o c.args.hub.now.state.applied) (all_without_room c.args.others.now) now i (get_or now i c.other-item.result) l (ap (λ (d : NodeWithRoom). get_or now i d) c.other-item.is)
    c.loop-other.invariant.takes (hub_given c.args.hub.now.state (all_without_room c.args.others.now)) c.requires.agreed

pub deliver_applied-requires-clause-quiet : goal.deliver_applied-requires-clause-quiet
deliver_applied-requires-clause-quiet c =
    let now = c.loop-other.others in
    let i = c.loop-other.other-index in
    let l : c.loop-other.other-index < length c.loop-other.others = omega arith in
    c.loop-other.invariant.quiet (get_or now i c.other-item.result).state (state_at now i (get_or now i c.other-item.result) l (ap (λ (d : NodeWithRoom). get_or now i d) c.other-item.is))

pub loop-other-preserved : goal.loop-other-preserved
loop-other-preserved c =
    let now = c.loop-other.others in
    let i = c.loop-other.other-index in
    let l : c.loop-other.other-index < length c.loop-other.others = omega arith in
    record {
      takes = all_take_next (IsReceivedBy (c.args.hub.now.state ∷ all_without_room c.args.others.now)) (λ o. IsIn o c.args.hub.now.state.applied) (all_without_room c.args.others.now) now i (get_or now i c.other-item.result) l (ap (λ (d : NodeWithRoom). get_or now i d) c.other-item.is)
          c.loop-other.invariant.takes (hub_given c.args.hub.now.state (all_without_room c.args.others.now)) c.deliver_applied.new.to c.deliver_applied.ensures.takes;
      quiet = quiet_set now i c.deliver_applied.new.to c.loop-other.invariant.quiet c.in_ok-deliver_applied.ensures.ok.0;
      done = front_set (λ (k : NodeWithRoom). AreAmong c.args.hub.now.state.applied k.state.applied) now i c.deliver_applied.new.to l c.loop-other.invariant.done c.in_ok-deliver_applied.ensures.ok.1;
    }

pub returns-in_err-deliver_applied-clause-short : goal.returns-in_err-deliver_applied-clause-short
returns-in_err-deliver_applied-clause-short c =
    let now = c.loop-other.others in
    let i = c.loop-other.other-index in
    let l : c.loop-other.other-index < length c.loop-other.others = omega arith in
    if_err_of_equal c.from_residual.result _ (λ f. OneHasNotTaken (c.args.hub.now.state ∷ all_without_room c.args.others.now) f (all_without_room (set c.loop-other.others c.loop-other.other-index c.deliver_applied.new.to))) c.from_residual.ensures.1
    (one_short (c.args.hub.now.state ∷ all_without_room c.args.others.now) (all_without_room (set now i c.deliver_applied.new.to)) (IsReceivedOrOneOf (get_or now i c.other-item.result).state (λ o. IsIn o c.args.hub.now.state.applied)) c.deliver_applied.new.to.state _ (state_set now i c.deliver_applied.new.to l)
    c.in_err-deliver_applied.ensures.short
    (received_to (IsReceivedBy (c.args.hub.now.state ∷ all_without_room c.args.others.now)) (λ o. IsIn o c.args.hub.now.state.applied) (all_without_room c.args.others.now) now i (get_or now i c.other-item.result) l (ap (λ (d : NodeWithRoom). get_or now i d) c.other-item.is)
    c.loop-other.invariant.takes (hub_given c.args.hub.now.state (all_without_room c.args.others.now))))

pub returns-in_err-deliver_applied-clause-takes : goal.returns-in_err-deliver_applied-clause-takes
returns-in_err-deliver_applied-clause-takes c =
    let now = c.loop-other.others in
    let i = c.loop-other.other-index in
    let l : c.loop-other.other-index < length c.loop-other.others = omega arith in
    all_take_next (IsReceivedBy (c.args.hub.now.state ∷ all_without_room c.args.others.now)) (λ o. IsIn o c.args.hub.now.state.applied) (all_without_room c.args.others.now) now i (get_or now i c.other-item.result) l (ap (λ (d : NodeWithRoom). get_or now i d) c.other-item.is)
    c.loop-other.invariant.takes (hub_given c.args.hub.now.state (all_without_room c.args.others.now)) c.deliver_applied.new.to c.deliver_applied.ensures.takes

pub returns-clause-ok : goal.returns-clause-ok
returns-clause-ok c =
    let all : length c.loop-other.others ≤ c.loop-other.other-index = omega arith in (
      c.loop-other.invariant.quiet,
      each_state (λ (n : NodeState). AreAmong c.args.hub.now.state.applied n.applied) c.loop-other.others (λ entry i. c.loop-other.invariant.done entry (subst (IsIn entry) (sym (take_whole c.loop-other.others c.loop-other.other-index all)) i)),
    )
