use Rattle.std.proofs.Common.{◌≡◌, ◌+◌, ◌≤◌, length}
use Rattle.mail_fields.specs.HeaderValues.{skip_blanks}
use Rattle.mail_fields.proofs.element_words.skip_blanks.Given as goal

abbrev pub invariant-loop : goal.invariant-loop
invariant-loop l =
    record { left : l.counter + length l.rest ≤ length l.elements; same : skip_blanks l.rest ≡ skip_blanks l.elements }
