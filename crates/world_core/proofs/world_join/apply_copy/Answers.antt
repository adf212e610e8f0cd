use Rattle.std.proofs.Common.{subst}
use Rattle.crdt_ops.specs.declared.op.Op.{Op}
use Rattle.imap_node.specs.Deliveries.{Delivers}
use Rattle.world_core.proofs.JoinLemmas.{arrived_is, arrived_lasts}
use Rattle.world_core.proofs.world_join.apply_copy.Goals as goal

pub returns-in-Ok-deliver-clause-ok : goal.returns-in-Ok-deliver-clause-ok
returns-in-Ok-deliver-clause-ok c =
    let old = c.args.node.now.state in
    let new = c.deliver.new.self.state in
    let arrival = c.in-Ok-deliver.field-0.arrival in
    arrived_is old c.args.op.now c.requires.ripe c.requires.nothing arrival new (subst (λ (o : Op). Delivers old o arrival new) c.in-Ok.ensures c.in-Ok-deliver.ensures.answer)

pub returns-in-Ok-deliver-clause-not_exhausted : goal.returns-in-Ok-deliver-clause-not_exhausted
returns-in-Ok-deliver-clause-not_exhausted c =
    let old = c.args.node.now.state in
    let new = c.deliver.new.self.state in
    let arrival = c.in-Ok-deliver.field-0.arrival in
    arrived_lasts old c.args.op.now c.requires.ripe c.requires.nothing arrival new (subst (λ (o : Op). Delivers old o arrival new) c.in-Ok.ensures c.in-Ok-deliver.ensures.answer)
