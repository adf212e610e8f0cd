use Rattle.std.proofs.Common.{take}
use Rattle.imap_node.specs.Deliveries.{HoldsRipeOp}
use Rattle.imap_node.specs.Nodes.{NodeWithRoom}
use Rattle.merge_laws.specs.Orders.{IsIn}
use Rattle.world_core.specs.Replicas.{all_without_room}
use Rattle.world_core.specs.Settlement.{AllTakeSomeOf, IsReceivedBy}
use Rattle.world_core.proofs.settlement.release_all.Given as goal

abbrev pub invariant-loop-node : goal.invariant-loop-node
invariant-loop-node l = record {
  takes : AllTakeSomeOf (IsReceivedBy (all_without_room l.initial.nodes)) (all_without_room l.initial.nodes) (all_without_room l.nodes);
  done : (entry : NodeWithRoom) → IsIn entry (take l.node-index l.nodes) → ¬ HoldsRipeOp entry.state;
}
