use Rattle.std.proofs.Common.{◌≡◌, ◌++◌, drop}
use Rattle.mailbox_utf7.specs.ModifiedUtf7.{octets_of_units}
use Rattle.mailbox_utf7.proofs.shifts.push_units.Given as goal

abbrev pub invariant-loop-unit : goal.invariant-loop-unit
invariant-loop-unit l =
    l.octets.items ++ octets_of_units (drop l.unit-index l.units) ≡ l.fn.octets.items ++ octets_of_units l.units
