use Rattle.std.proofs.Common.{◌≤◌}
use Rattle.mail_parts.specs.Reading.{IsPassed}
use Rattle.mail_parts.proofs.part_lines.body_size.Given as goal

abbrev pub invariant-loop : goal.invariant-loop
invariant-loop l = record { far : l.counter ≤ l.size; passed : IsPassed l.boundaries l.text l.size }
