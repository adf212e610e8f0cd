use Rattle.std.proofs.Common.{arith}
use Rattle.crdt_ops.specs.Sound.{IsSound}
use Rattle.uid_projection.proofs.ExhaustionLemmas.{all_take_next, all_of}
use Rattle.uid_projection.proofs.charts.prove_all_sound.Goals as goal

pub loop-op-preserved : goal.loop-op-preserved
loop-op-preserved c = all_take_next IsSound c.args.ops.now c.loop-op.op-index c.op-item.result c.loop-op-test.true c.op-item.is c.loop-op.invariant c.prove_sound.ensures

pub returns : goal.returns
returns c = let stop = c.loop-op-test.false in all_of IsSound c.args.ops.now c.loop-op.op-index (omega (arith, stop)) c.loop-op.invariant
