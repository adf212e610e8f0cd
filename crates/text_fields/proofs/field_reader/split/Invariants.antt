use Rattle.std.proofs.Common.{◌≡◌, take, drop}
use Rattle.text_fields.specs.FieldReading.{cut_at, before_first_part}
use Rattle.text_fields.proofs.field_reader.split.Given as goal

abbrev pub invariant-loop-at : goal.invariant-loop-at
invariant-loop-at l = before_first_part (take l.at l.text) (cut_at l.separator (drop l.at l.text)) ≡ cut_at l.separator l.text
