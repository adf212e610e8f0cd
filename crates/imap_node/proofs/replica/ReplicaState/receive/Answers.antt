use Rattle.std.proofs.Common.{subst}
use Rattle.std.specs.Prelude.{MatchResult}
use Rattle.causal_inbox.specs.Delivery.{IsArrival, IsDeliverFault}
use Rattle.crdt_ops.specs.Ops.{clock_of, id_of}
use Rattle.imap_node.specs.Nodes.{ReplicaWithRoom, replica_received}
use Rattle.uid_projection.specs.Exhaustion.{Exhausts}
use Rattle.imap_node.proofs.replica.ReplicaState.receive.Goals as goal

pub returns-clause-answer : goal.returns-clause-answer
returns-clause-answer c =
    subst (λ (r : ReplicaWithRoom). MatchResult c.receive.result (λ a. IsArrival id_of clock_of Exhausts (replica_received r) c.args.op a c.receive.new.self.received) (λ e. IsDeliverFault id_of clock_of Exhausts (replica_received r) c.args.op e)) c.self.view_is
    c.receive.ensures.answer
