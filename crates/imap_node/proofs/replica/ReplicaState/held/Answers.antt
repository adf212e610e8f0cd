use Rattle.std.proofs.Common.{subst}
use Rattle.crdt_ops.specs.Sound.{IsSound}
use Rattle.imap_node.specs.Nodes.{ReplicaWithRoom}
use Rattle.merge_laws.specs.Orders.{AreSound}
use Rattle.imap_node.proofs.replica.ReplicaState.held.Goals as goal

pub returns-clause-sound : goal.returns-clause-sound
returns-clause-sound c = subst (λ (r : ReplicaWithRoom). AreSound IsSound r.held) c.self.view_is c.held.ensures.sound
