use Rattle.replica_links.specs.Links.{HasTakenOps}
use Rattle.replica_links.proofs.op_taker.hand_on.Given as goal

abbrev pub invariant-loop-op : goal.invariant-loop-op
invariant-loop-op g l = HasTakenOps g.T.Taker.takes l.initial.taker l.yielded l.took l.taker
