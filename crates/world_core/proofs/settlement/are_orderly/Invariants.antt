use Rattle.std.proofs.Common.{take}
use Rattle.imap_node.specs.Deliveries.{IsOrderly}
use Rattle.imap_node.specs.Nodes.{NodeWithRoom}
use Rattle.merge_laws.specs.Orders.{IsIn}
use Rattle.world_core.proofs.settlement.are_orderly.Given as goal

abbrev pub invariant-loop-node : goal.invariant-loop-node
invariant-loop-node l = (entry : NodeWithRoom) → IsIn entry (take l.node-index l.nodes) → IsOrderly entry.state
