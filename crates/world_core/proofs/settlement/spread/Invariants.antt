use Rattle.std.proofs.Common.{◌∷◌, take}
use Rattle.imap_node.specs.Nodes.{NodeWithRoom}
use Rattle.merge_laws.specs.Orders.{IsIn}
use Rattle.world_core.specs.Exchanges.{AreAmong, HoldNoRipeOp}
use Rattle.world_core.specs.Replicas.{all_without_room}
use Rattle.world_core.specs.Settlement.{AllTakeSomeOf, IsReceivedBy}
use Rattle.world_core.proofs.settlement.spread.Given as goal

abbrev pub invariant-loop-other : goal.invariant-loop-other
invariant-loop-other l = record {
  takes : AllTakeSomeOf (IsReceivedBy (l.hub.state ∷ all_without_room l.initial.others)) (all_without_room l.initial.others) (all_without_room l.others);
  quiet : HoldNoRipeOp (all_without_room l.others);
  done : (entry : NodeWithRoom) → IsIn entry (take l.other-index l.others) → AreAmong l.hub.state.applied entry.state.applied;
}
