use Rattle.std.proofs.Common.{◌++◌, ◌∷◌, [], subst, sym}
use Rattle.replica_links.specs.Links.{HasTakenOps}
use Rattle.replica_links.specs.declared.took.Took.{Took}
use Rattle.replica_links.proofs.DeliveryLemmas.{takes_append}
use Rattle.replica_links.proofs.op_taker.hand_on.Goals as goal

pub loop-op-preserved : goal.loop-op-preserved
loop-op-preserved g c =
    subst (λ (total : Took). HasTakenOps g.T.Taker.takes c.args.taker.now (c.loop-op.yielded ++ c.in-Some.op ∷ []) total c.deliver-one.new.self) (sym c.joined_with-took.ensures)
    (takes_append g.T.Taker.takes c.args.taker.now c.loop-op.yielded c.loop-op.took c.loop-op.taker c.in-Some.op c.deliver-one.result c.deliver-one.new.self c.loop-op.invariant c.deliver-one.ensures)
