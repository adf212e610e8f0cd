use Rattle.std.proofs.Common.{◌≡◌, false, take}
use Rattle.std.specs.List.{list_any}
use Rattle.mail_fields.specs.HeaderValues.{is_semicolon}
use Rattle.mail_fields.proofs.sections.section_size.Given as goal

abbrev pub invariant-loop-size : goal.invariant-loop-size
invariant-loop-size l = list_any is_semicolon (take l.size l.elements) ≡ false
