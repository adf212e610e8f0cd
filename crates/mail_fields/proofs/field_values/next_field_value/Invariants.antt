use Rattle.std.proofs.Common.{◌≡◌, ◌+◌, ◌≤◌, length}
use Rattle.mail_fields.specs.FieldValues.{field_values}
use Rattle.mail_fields.proofs.field_values.next_field_value.Given as goal

abbrev pub invariant-loop : goal.invariant-loop
invariant-loop l = (l.counter + length l.rest ≤ length l.text) × (field_values l.name l.rest ≡ field_values l.name l.text)
