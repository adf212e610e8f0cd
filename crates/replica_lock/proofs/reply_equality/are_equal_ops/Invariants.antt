use Rattle.std.proofs.Common.{◌≡◌, take}
use Rattle.replica_lock.proofs.reply_equality.are_equal_ops.Given as goal

abbrev pub invariant-loop-i : goal.invariant-loop-i
invariant-loop-i l = take l.i l.ones ≡ take l.i l.others
