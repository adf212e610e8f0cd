use Rattle.std.proofs.Common.{take}
use Rattle.merge_laws.specs.Orders.{AreSound}
use Rattle.crdt_ops.specs.Sound.{IsSound}
use Rattle.uid_projection.proofs.charts.prove_all_sound.Given as goal

abbrev pub invariant-loop-op : goal.invariant-loop-op
invariant-loop-op l = AreSound IsSound (take l.op-index l.ops)
