use Rattle.std.proofs.Common.{◌≡◌, ◌++◌, drop}
use Rattle.replica_lock.proofs.shared.copy_ops.Given as goal

abbrev pub invariant-loop-op : goal.invariant-loop-op
invariant-loop-op l = l.copied.items ++ drop l.op-index l.ops ≡ l.ops
