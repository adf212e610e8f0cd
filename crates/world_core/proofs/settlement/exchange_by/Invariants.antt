use Rattle.std.proofs.Common.{◌∷◌, ◌-◌, ◌^◌, length}
use Rattle.imap_node.specs.Deliveries.{HoldsRipeOp}
use Rattle.world_core.specs.Exchanges.{HoldNoRipeOp}
use Rattle.world_core.specs.Replicas.{all_without_room}
use Rattle.world_core.specs.Settlement.{AllTakeSomeOf, IsReceivedBy}
use Rattle.world_core.proofs.settlement.exchange_by.Given as goal

abbrev pub invariant-loop-hub : goal.invariant-loop-hub
invariant-loop-hub l = record {
  takes : AllTakeSomeOf (IsReceivedBy (l.fn.hub.state ∷ all_without_room l.fn.others)) (l.fn.hub.state ∷ all_without_room l.fn.others) (l.hub.state ∷ all_without_room l.others);
  quiet : ¬ HoldsRipeOp l.hub.state;
  others_quiet : HoldNoRipeOp (all_without_room l.others);
}

abbrev pub decreases-loop-hub : goal.decreases-loop-hub
decreases-loop-hub l = 2 ^ 64 - length l.hub.state.applied
