use Rattle.std.proofs.Common.{subst}
use Rattle.causal_inbox.specs.Stalls.{StallsFor}
use Rattle.crdt_ops.specs.declared.op.Op.{Op}
use Rattle.imap_node.specs.Nodes.{ReplicaWithRoom, replica_received}
use Rattle.uid_projection.specs.Exhaustion.{Exhausts}
use Rattle.imap_node.proofs.replica.ReplicaState.stall.Goals as goal
use Rattle.crdt_ops.specs.Ops.{clock_of, id_of}

pub returns-clause-stalls : goal.returns-clause-stalls
returns-clause-stalls c = subst (λ (r : ReplicaWithRoom). StallsFor id_of clock_of Exhausts (replica_received r) c.stall.result) c.self.view_is c.stall.ensures.stalls
