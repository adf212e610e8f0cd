use Rattle.std.proofs.Common.{◌≡◌, ◌≤◌, ◌-◌, ◌++◌, drop, length, take}
use Rattle.causal_inbox.specs.Inbox.{uncovered_ops}
use Rattle.crdt_ops.specs.Ops.{id_of}
use Rattle.link_runtime.proofs.op_batch.uncovered_copies.Given as goal

-- the copies so far and those of the operations to come are those of all
abbrev pub invariant-loop-op : goal.invariant-loop-op
invariant-loop-op l =
    (length l.copies.items ≤ l.limit)
    × (l.copies.items ++ take (l.limit - length l.copies.items) (uncovered_ops id_of l.clock (drop l.op-index l.ops)) ≡ take l.limit (uncovered_ops id_of l.clock l.ops))
