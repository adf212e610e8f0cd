use Rattle.std.proofs.Common.{◌↔◌, IsTrue, subst}
use Rattle.causal_inbox.specs.Inbox.{IsStalled}
use Rattle.crdt_ops.specs.Ops.{clock_of, id_of}
use Rattle.imap_node.specs.Nodes.{ReplicaWithRoom, replica_received}
use Rattle.imap_node.proofs.replica.ReplicaState.is_stalled.Goals as goal

pub returns : goal.returns
returns c = subst (λ (r : ReplicaWithRoom). IsTrue c.is_stalled.result ↔ IsStalled id_of clock_of (replica_received r)) c.self.view_is c.is_stalled.ensures
