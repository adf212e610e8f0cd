use Rattle.std.proofs.Common.{◌≡◌, ◌+◌, ◌≤◌, ◌++◌, length}
use Rattle.mail_fields.specs.Parameters.{parameters_of}
use Rattle.mail_fields.specs.ElementReading.{more_sections}
use Rattle.mail_fields.proofs.parameters.parameters_of.Given as goal

abbrev pub invariant-loop : goal.invariant-loop
invariant-loop l =
    record {
      left : l.counter + length l.rest ≤ length l.elements;
      same : l.parameters.items ++ parameters_of (more_sections l.rest) ≡ parameters_of (more_sections l.elements);
    }
