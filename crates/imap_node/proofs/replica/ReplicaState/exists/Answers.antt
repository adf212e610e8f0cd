use Rattle.uid_projection.proofs.ExhaustionLemmas.{exists_of_test}
use Rattle.imap_node.proofs.replica.ReplicaState.exists.Goals as goal

pub returns : goal.returns
returns c = exists_of_test c.args.name.now c.args.self.now.applied c.exists.result (c.exists.ensures.set c.args.self.now.applied c.folders_now.ensures)
