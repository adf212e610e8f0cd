use Rattle.std.proofs.Common.{◌≡◌, ◌+◌, ◌≤◌, length}
use Rattle.mail_text.specs.HeaderFields.{trim_end_blanks}
use Rattle.mail_text.proofs.header_fields.trim_end_blanks.Given as goal

abbrev pub invariant-loop : goal.invariant-loop
invariant-loop l = (l.counter + length l.rest ≤ length l.text) × (trim_end_blanks l.rest ≡ trim_end_blanks l.text)
