use Rattle.std.proofs.Common.{◌+◌}
use Rattle.std.proofs.lemmas.List.{take_rest}
use Rattle.world_core.proofs.BeginLemmas.{apart_next}
use Rattle.world_core.proofs.world.first_repeated_name.Goals as goal

pub loop-place-preserved : goal.loop-place-preserved
loop-place-preserved c = apart_next c.args.starts.now c.loop-place.place c.index-starts-place.result c.loop-place-test.true c.index-starts-place.is _ (take_rest c.args.starts.now (c.loop-place.place + 1)) (c.has_name.ensures.no c.if-has_name.false) c.loop-place.invariant
