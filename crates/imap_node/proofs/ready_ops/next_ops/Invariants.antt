use Rattle.imap_node.proofs.NextLemmas.{IsMade}
use Rattle.imap_node.proofs.ready_ops.next_ops.Given as goal

abbrev pub invariant-loop-kind : goal.invariant-loop-kind
invariant-loop-kind l = IsMade l.replica.start.replica l.replica.applied l.fn.kinds.items l.kind-iterator.rest.items l.ops.items l.clock
