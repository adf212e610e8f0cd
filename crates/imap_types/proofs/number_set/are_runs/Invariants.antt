use Rattle.std.proofs.Common.{◌≡◌, drop}
use Rattle.imap_types.specs.Numbers.{are_runs_from}
use Rattle.imap_types.proofs.number_set.are_runs.Given as goal

abbrev pub invariant-loop-run : goal.invariant-loop-run
invariant-loop-run l = are_runs_from l.low (drop l.run-index l.runs) ≡ are_runs_from 1 l.runs
