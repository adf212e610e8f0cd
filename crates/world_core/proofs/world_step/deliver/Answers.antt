use Rattle.std.specs.Prelude.{slice_index_or}
use Rattle.std.proofs.Common.{◌≡◌, inl, refl, sym, subst}
use Rattle.crdt_ops.specs.declared.op.Op.{Op}
use Rattle.world_core.specs.declared.event.Event.TheVariants as events
use Rattle.world_core.specs.declared.event.Outcome.TheVariants.{NotTaken, PassedOver}
use Rattle.causal_inbox.specs.declared.delivery.DeliverFault.TheVariants.{NoMemory}
use Rattle.world_core.specs.Replicas.{IsIssuedIn, nodes_by_name, all_without_room}
use Rattle.world_core.proofs.StepLemmas.{moved, takes_from, unmoved_at}
use Rattle.world_core.proofs.world_step.deliver.Goals as goal

pub returns-in_default-find_issued : goal.returns-in_default-find_issued
returns-in_default-find_issued c = unmoved_at c.args.nodes.now (events.Deliver c.args.at c.args.id) PassedOver c.in-Some.place c.in-Some.ensures (λ m. (c.in_default-find_issued.ensures, refl))

pub returns-in-Ok : goal.returns-in-Ok
returns-in-Ok c =
    let w = subst (λ (o : Op). IsIssuedIn (nodes_by_name (all_without_room c.args.nodes.now)) o × (o.id ≡ c.args.id)) (sym c.in-Ok.ensures) c.in-Some-find_issued.ensures in
    moved c.args.nodes.now _ (events.Deliver c.args.at c.args.id) c.deliver.result c.in-Some.place c.index-nodes-place.result c.deliver.new.node c.in-Some.ensures c.index-nodes-place.is refl
    (takes_from (IsIssuedIn (nodes_by_name (all_without_room c.args.nodes.now))) (slice_index_or c.args.nodes.now c.in-Some.place c.index-nodes-place.result).state c.args.id c.deliver.result c.deliver.new.node.state c.in-Ok.op w.0 w.1 c.deliver.ensures)

pub returns-in-Err : goal.returns-in-Err
returns-in-Err c = unmoved_at c.args.nodes.now (events.Deliver c.args.at c.args.id) (NotTaken NoMemory) c.in-Some.place c.in-Some.ensures (λ m. (c.in-Some-find_issued.op.now, c.in-Some-find_issued.ensures.0, c.in-Some-find_issued.ensures.1, inl (refl, refl)))
