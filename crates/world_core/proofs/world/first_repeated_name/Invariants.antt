use Rattle.std.proofs.Common.{drop}
use Rattle.world_core.specs.Worlds.{HaveDistinctNames}
use Rattle.world_core.proofs.world.first_repeated_name.Given as goal

abbrev pub invariant-loop-place : goal.invariant-loop-place
invariant-loop-place l = HaveDistinctNames (drop l.place l.starts) → HaveDistinctNames l.starts
