use Rattle.std.proofs.Common.{take}
use Rattle.crdt_ops.specs.declared.op.Op.{Op}
use Rattle.merge_laws.specs.Orders.{IsIn}
use Rattle.world_core.proofs.agreement.has_all.Given as goal

abbrev pub invariant-loop-op : goal.invariant-loop-op
invariant-loop-op l = (o : Op) → IsIn o (take l.op-index l.ops) → IsIn o l.others
