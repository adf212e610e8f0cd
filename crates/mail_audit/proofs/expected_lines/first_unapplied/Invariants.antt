use Rattle.std.proofs.Common.{take}
use Rattle.crdt_ops.specs.declared.op.Op.{Op}
use Rattle.merge_laws.specs.Orders.{IsIn}
use Rattle.tags_clocks.specs.Clock.{IsCause}
use Rattle.mail_audit.proofs.expected_lines.first_unapplied.Given as goal

abbrev pub invariant-loop-place : goal.invariant-loop-place
invariant-loop-place l = (o : Op) → IsIn o (take l.place l.ops) → IsCause l.clock o.id
