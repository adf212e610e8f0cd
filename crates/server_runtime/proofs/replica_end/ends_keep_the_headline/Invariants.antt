use Rattle.std.proofs.Common.{take}
use Rattle.merge_laws.specs.Orders.{IsIn}
use Rattle.server_runtime.specs.ReplicaEnds.{EndHasHistory}
use Rattle.server_runtime.specs.declared.replica_end.ReplicaEnd.{ReplicaEnd}
use Rattle.server_runtime.proofs.replica_end.ends_keep_the_headline.Given as goal

abbrev pub invariant-loop-end : goal.invariant-loop-end
invariant-loop-end l = (end : ReplicaEnd) → IsIn end (take l.end-index l.ends) → EndHasHistory end
