use Rattle.std.proofs.Common.{subst, sym}
use Rattle.imap_node.specs.Deliveries.{IsOrderly}
use Rattle.imap_node.specs.Nodes.{NodeWithRoom}
use Rattle.merge_laws.specs.Orders.{IsIn}
use Rattle.world_core.proofs.PlaceLemmas.{all_more, take_whole}
use Rattle.world_core.proofs.TakeLemmas.{each_state}
use Rattle.world_core.proofs.settlement.are_orderly.Goals as goal

pub loop-node-init : goal.loop-node-init
loop-node-init c = λ entry i. absurd i

pub loop-node-preserved : goal.loop-node-preserved
loop-node-preserved c = all_more (λ (entry : NodeWithRoom). IsOrderly entry.state) c.args.nodes.now c.loop-node.node-index _ c.loop-node-test.true c.node-item.is c.loop-node.invariant c.op_list-applied.ensures.orderly

pub returns : goal.returns
returns c = each_state IsOrderly c.args.nodes.now (λ entry i. c.loop-node.invariant entry (subst (IsIn entry) (sym (take_whole c.args.nodes.now c.loop-node.node-index c.loop-node-test.false)) i))
