use Rattle.std.proofs.Common.{◌≡◌, ◌++◌, drop}
use Rattle.imap_node.proofs.reply.copy_ops.Given as goal

abbrev pub invariant-loop-op : goal.invariant-loop-op
invariant-loop-op l = l.copies.items ++ drop l.op-index l.ops ≡ l.ops
