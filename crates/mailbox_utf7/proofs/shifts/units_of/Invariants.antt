use Rattle.std.proofs.Common.{◌≡◌, ◌+◌, ◌≤◌, length, Some}
use Rattle.mailbox_utf7.specs.Reading.{joined, units_of}
use Rattle.mailbox_utf7.proofs.shifts.units_of.Given as goal

abbrev pub invariant-loop : goal.invariant-loop
invariant-loop l =
    (l.counter + length l.rest ≤ length l.octets)
    × (joined (Some l.units.items) (units_of l.rest) ≡ units_of l.octets)
