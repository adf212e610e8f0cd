use Rattle.std.proofs.Common.{◌≡◌, [], ◌∷◌, MatchOption, subst}
use Rattle.causal_inbox.specs.Inbox.{IsNextReleased, IsStalled}
use Rattle.crdt_ops.specs.Ops.{clock_of, id_of}
use Rattle.crdt_ops.specs.declared.op.Op.{Op}
use Rattle.imap_node.specs.Nodes.{ReplicaWithRoom, replica_received}
use Rattle.imap_node.proofs.replica.ReplicaState.next_release.Goals as goal

pub returns : goal.returns
returns c =
    subst (λ (r : ReplicaWithRoom). MatchOption c.next_release.result (¬ IsStalled id_of clock_of (replica_received r)) (λ ops. (op : Op) × (ops.now ≡ op ∷ []) × IsNextReleased id_of clock_of (replica_received r) op)) c.self.view_is c.next_release.ensures
