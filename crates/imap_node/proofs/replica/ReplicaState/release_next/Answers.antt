use Rattle.std.proofs.Common.{subst}
use Rattle.std.specs.Prelude.{MatchResult}
use Rattle.causal_inbox.specs.Releases.{Releases, RefusesRelease}
use Rattle.crdt_ops.specs.Ops.{clock_of, id_of}
use Rattle.imap_node.specs.Nodes.{ReplicaWithRoom, replica_received}
use Rattle.uid_projection.specs.Exhaustion.{Exhausts}
use Rattle.imap_node.proofs.replica.ReplicaState.release_next.Goals as goal

pub returns-clause-answer : goal.returns-clause-answer
returns-clause-answer c =
    subst (λ (r : ReplicaWithRoom). MatchResult c.release_next.result (λ b. Releases id_of clock_of Exhausts (replica_received r) b c.release_next.new.self.received) (λ e. RefusesRelease id_of clock_of Exhausts (replica_received r) e)) c.self.view_is
    c.release_next.ensures.answer
