use Rattle.std.proofs.Common.{◌≡◌, ◌+◌, ◌≤◌, ◌++◌, length}
use Rattle.mail_fields.specs.FieldValues.{addresses_in, addresses_named, field_values}
use Rattle.mail_fields.proofs.field_values.addresses_named.Given as goal

abbrev pub invariant-loop : goal.invariant-loop
invariant-loop l =
    record {
      left : l.counter + length l.rest ≤ length l.header;
      same : l.addresses.items ++ addresses_in (field_values l.name l.rest) ≡ addresses_named l.name l.header;
    }
