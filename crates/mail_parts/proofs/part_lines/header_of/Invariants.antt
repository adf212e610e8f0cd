use Rattle.std.proofs.Common.{◌≤◌}
use Rattle.mail_parts.specs.Reading.{IsHeaderPassed}
use Rattle.mail_parts.proofs.part_lines.header_of.Given as goal

abbrev pub invariant-loop : goal.invariant-loop
invariant-loop l = record { far : l.counter ≤ l.size; passed : IsHeaderPassed l.boundaries l.text l.size }
