use Rattle.std.proofs.Common.{◌∷◌, take}
use Rattle.imap_node.specs.Deliveries.{HoldsRipeOp}
use Rattle.imap_node.specs.Nodes.{NodeWithRoom}
use Rattle.merge_laws.specs.Orders.{IsIn}
use Rattle.world_core.specs.Exchanges.{AreAmong}
use Rattle.world_core.specs.Replicas.{all_without_room}
use Rattle.world_core.specs.Settlement.{IsReceivedBy, TakesSomeOf}
use Rattle.world_core.proofs.settlement.collect.Given as goal

abbrev pub invariant-loop-other : goal.invariant-loop-other
invariant-loop-other l = record {
  takes : TakesSomeOf (IsReceivedBy (l.initial.hub.state ∷ all_without_room l.others)) l.initial.hub.state l.hub.state;
  quiet : ¬ HoldsRipeOp l.hub.state;
  done : (entry : NodeWithRoom) → IsIn entry (take l.other-index l.others) → AreAmong entry.state.applied l.hub.state.applied;
}
