use Rattle.std.proofs.Common.{◌≡◌, ◌∷◌, ◌++◌, List, [], sym, ap, ◌∙◌, subst}
use Rattle.crdt_ops.specs.declared.op.Op.{Op}
use Rattle.imap_node.specs.Nodes.{NodeState}
use Rattle.merge_laws.specs.Orders.{IsRipe}
use Rattle.uid_projection.specs.Exhaustion.{Exhausts}
use Rattle.imap_node.specs.Operations.{clock_of, id_of}
use Rattle.world_core.specs.declared.world_join.JoinRefusal.TheVariants.{Exhausted as UsedUp}
use Rattle.world_core.proofs.ExchangeLemmas.{if_err_of_equal}
use Rattle.world_core.proofs.JoinLemmas.{lacks_no_more, lacks_at, ripe_at}
use Rattle.world_core.proofs.PlaceLemmas.{take_next}
use Rattle.world_core.proofs.world_join.apply_copies.Goals as goal

pub apply_copy-requires-clause-ripe : goal.apply_copy-requires-clause-ripe
apply_copy-requires-clause-ripe c =
    subst (λ (n : NodeState). IsRipe id_of clock_of n.applied c.op-item.result) (sym c.loop-op.invariant.now)
    (ripe_at c.args.ops.now c.loop-op.op-index c.op-item.result c.loop-op-test.true c.op-item.is c.requires.causal)

pub returns-in_err-apply_copy-clause-used_up : goal.returns-in_err-apply_copy-clause-used_up
returns-in_err-apply_copy-clause-used_up c =
    if_err_of_equal c.from_residual.result _ (λ why. why ≡ UsedUp → Exhausts c.args.node.now.state.start [] c.args.ops.now) c.from_residual.ensures.1
    (λ e. lacks_at c.args.node.now.state.start c.args.ops.now c.loop-op.op-index c.op-item.result c.loop-op-test.true c.op-item.is
    (subst (λ (n : NodeState). Exhausts n.start n.applied (c.op-item.result ∷ [])) c.loop-op.invariant.now (c.in_err-apply_copy.ensures.used_up e)))

pub loop-op-preserved : goal.loop-op-preserved
loop-op-preserved c =
    let start = c.args.node.now.state.start in
    let ops = c.args.ops.now in
    let i = c.loop-op.op-index in
    let op = c.op-item.result in
    let next = take_next ops i op c.loop-op-test.true c.op-item.is in
    record {
      now = c.in_ok-apply_copy.ensures.ok ∙ ap (λ (n : NodeState). record n { applied = n.applied ++ op ∷ [] }) c.loop-op.invariant.now ∙ ap (λ (os : List Op). record c.args.node.now.state { applied = os }) (sym next);
      not_exhausted = lacks_no_more start ops i op c.loop-op-test.true c.op-item.is c.loop-op.invariant.not_exhausted
          (subst (λ (n : NodeState). ¬ Exhausts n.start n.applied (op ∷ [])) c.loop-op.invariant.now c.in_ok-apply_copy.ensures.not_exhausted);
    }
