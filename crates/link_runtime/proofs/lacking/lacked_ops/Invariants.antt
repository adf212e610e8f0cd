use Rattle.std.proofs.Common.{◌≡◌, min, take}
use Rattle.link_runtime.specs.Lacking.{lacked_ops}
use Rattle.link_runtime.proofs.lacking.lacked_ops.Given as goal

abbrev pub invariant-loop-replica : goal.invariant-loop-replica
invariant-loop-replica l = l.count ≡ min 18446744073709551615 (lacked_ops (take l.replica-index l.own) l.covered)
