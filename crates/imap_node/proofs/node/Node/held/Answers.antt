use Rattle.std.proofs.Common.{subst}
use Rattle.crdt_ops.specs.Sound.{IsSound}
use Rattle.merge_laws.specs.Orders.{AreSound}
use Rattle.imap_node.specs.Deliveries.{IsOrderly}
use Rattle.imap_node.specs.Nodes.{NodeWithRoom}
use Rattle.imap_node.proofs.node.Node.held.Goals as goal

pub returns-clause-orderly : goal.returns-clause-orderly
returns-clause-orderly c = subst (λ (n : NodeWithRoom). IsOrderly n.state) c.self.view_is c.held.ensures.lawful

pub returns-clause-sound : goal.returns-clause-sound
returns-clause-sound c = subst (λ (n : NodeWithRoom). AreSound IsSound n.state.held) c.self.view_is c.held.ensures.sound
