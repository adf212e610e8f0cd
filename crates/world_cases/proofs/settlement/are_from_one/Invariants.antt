use Rattle.std.proofs.Common.{drop}
use Rattle.world_core.specs.Worlds.{AreFromOne}
use Rattle.world_cases.proofs.settlement.are_from_one.Given as goal

abbrev pub invariant-loop-start : goal.invariant-loop-start
invariant-loop-start l = AreFromOne (drop l.start-index l.starts) → AreFromOne l.starts
