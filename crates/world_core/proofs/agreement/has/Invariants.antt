use Rattle.std.proofs.Common.{take}
use Rattle.merge_laws.specs.Orders.{IsIn}
use Rattle.world_core.proofs.agreement.has.Given as goal

abbrev pub invariant-loop-other : goal.invariant-loop-other
invariant-loop-other l = ¬ IsIn l.op (take l.other-index l.ops)
