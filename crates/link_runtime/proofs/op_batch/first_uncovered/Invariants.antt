use Rattle.std.proofs.Common.{◌≡◌, drop}
use Rattle.causal_inbox.specs.Inbox.{uncovered_ops}
use Rattle.crdt_ops.specs.Ops.{id_of}
use Rattle.link_runtime.proofs.op_batch.first_uncovered.Given as goal

-- the clock covers those before
abbrev pub invariant-loop-op : goal.invariant-loop-op
invariant-loop-op l = uncovered_ops id_of l.clock l.ops ≡ uncovered_ops id_of l.clock (drop l.op-index l.ops)
