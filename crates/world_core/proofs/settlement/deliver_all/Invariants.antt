use Rattle.world_core.proofs.TakeLemmas.{Delivered}
use Rattle.world_core.proofs.settlement.deliver_all.Given as goal

abbrev pub invariant-loop-op : goal.invariant-loop-op
invariant-loop-op l = Delivered l.initial.node.state l.fn.ops.items l.op-iterator.rest.items l.node.state
