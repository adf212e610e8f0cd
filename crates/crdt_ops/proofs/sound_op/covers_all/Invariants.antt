use Rattle.std.proofs.Common.{◌↔◌, drop}
use Rattle.crdt_ops.specs.Sound.{AreCovered}
use Rattle.crdt_ops.proofs.sound_op.covers_all.Given as goal

abbrev pub invariant-loop-id : goal.invariant-loop-id
invariant-loop-id l = AreCovered l.clock (drop l.id-index l.ids) ↔ AreCovered l.clock l.ids
