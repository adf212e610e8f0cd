use Rattle.std.proofs.Common.{◌≡◌, drop}
use Rattle.tags_clocks.specs.Clock.{count_of}
use Rattle.tags_clocks.proofs.entries.count_of_replica.Given as goal

abbrev pub invariant-loop-owner : goal.invariant-loop-owner
invariant-loop-owner l = count_of (drop l.owner-index l.entries) l.replica ≡ count_of l.entries l.replica
