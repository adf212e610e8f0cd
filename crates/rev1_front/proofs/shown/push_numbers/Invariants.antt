use Rattle.std.proofs.Common.{◌≡◌, ◌≤◌, ◌-◌, ◌++◌, flat_map}
use Rattle.std.specs.List.{range_with_len}
use Rattle.rev1_front.specs.Showing.{spaced_number}
use Rattle.rev1_front.proofs.shown.push_numbers.Given as goal

abbrev pub invariant-loop-number : goal.invariant-loop-number
invariant-loop-number l =
    (l.fn.run.first ≤ l.number)
    × (l.line.items ≡ l.initial.line.items ++ flat_map spaced_number (range_with_len l.fn.run.first (l.number - l.fn.run.first)))
