use Rattle.std.proofs.Common.{◌<◌, ◌≤◌, length, get_or, set, ap, arith, subst, sym}
use Rattle.imap_node.specs.Deliveries.{HoldsRipeOp}
use Rattle.imap_node.specs.Nodes.{NodeWithRoom, NodeState}
use Rattle.merge_laws.specs.Orders.{IsIn}
use Rattle.world_core.specs.Exchanges.{OneHasNotTaken}
use Rattle.world_core.specs.Replicas.{all_without_room}
use Rattle.world_core.proofs.ExchangeLemmas.{front_set, if_err_of_equal, released_at, released_short}
use Rattle.world_core.proofs.PlaceLemmas.{take_whole}
use Rattle.world_core.proofs.TakeLemmas.{all_take_own, each_state}
use Rattle.world_core.proofs.settlement.release_all.Goals as goal

pub loop-node-init : goal.loop-node-init
loop-node-init c = record { takes = all_take_own (all_without_room c.args.nodes.now); done = λ entry i. absurd i }

pub loop-node-preserved : goal.loop-node-preserved
loop-node-preserved c =
    let now = c.loop-node.nodes in
    let i = c.loop-node.node-index in
    let l : c.loop-node.node-index < length c.loop-node.nodes = omega arith in
    record {
      takes = released_at (all_without_room c.args.nodes.now) now i (get_or now i c.node-item.result) l (ap (λ (d : NodeWithRoom). get_or now i d) c.node-item.is) c.loop-node.invariant.takes c.release.new.node c.release.ensures.takes;
      done = front_set (λ (k : NodeWithRoom). ¬ HoldsRipeOp k.state) now i c.release.new.node l c.loop-node.invariant.done c.in_ok-release.ensures.ok;
    }

pub returns-in_err-release-clause-short : goal.returns-in_err-release-clause-short
returns-in_err-release-clause-short c =
    let now = c.loop-node.nodes in
    let i = c.loop-node.node-index in
    let l : c.loop-node.node-index < length c.loop-node.nodes = omega arith in
    if_err_of_equal c.from_residual.result _ (λ f. OneHasNotTaken (all_without_room c.args.nodes.now) f (all_without_room (set c.loop-node.nodes c.loop-node.node-index c.release.new.node))) c.from_residual.ensures.1
    (released_short (all_without_room c.args.nodes.now) now i (get_or now i c.node-item.result) l (ap (λ (d : NodeWithRoom). get_or now i d) c.node-item.is) c.loop-node.invariant.takes c.release.new.node _ c.in_err-release.ensures.short)

pub returns-in_err-release-clause-takes : goal.returns-in_err-release-clause-takes
returns-in_err-release-clause-takes c =
    let now = c.loop-node.nodes in
    let i = c.loop-node.node-index in
    let l : c.loop-node.node-index < length c.loop-node.nodes = omega arith in
    released_at (all_without_room c.args.nodes.now) now i (get_or now i c.node-item.result) l (ap (λ (d : NodeWithRoom). get_or now i d) c.node-item.is) c.loop-node.invariant.takes c.release.new.node c.release.ensures.takes

pub returns-clause-ok : goal.returns-clause-ok
returns-clause-ok c =
    let all : length c.loop-node.nodes ≤ c.loop-node.node-index = omega arith in
    each_state (λ (n : NodeState). ¬ HoldsRipeOp n) c.loop-node.nodes (λ entry i. c.loop-node.invariant.done entry (subst (IsIn entry) (sym (take_whole c.loop-node.nodes c.loop-node.node-index all)) i))
