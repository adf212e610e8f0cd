use Rattle.std.proofs.Common.{◌≡◌, ◌++◌, take, flat_map}
use Rattle.imap_types.specs.Numbers.{numbers_in}
use Rattle.rev1_front.specs.Showing.{spaced_number}
use Rattle.rev1_front.proofs.shown.push_runs.Given as goal

abbrev pub invariant-loop-run : goal.invariant-loop-run
invariant-loop-run l = l.line.items ≡ l.initial.line.items ++ flat_map spaced_number (numbers_in (take l.run-index l.runs))
