use Rattle.std.proofs.Common.{◌+◌, ◌≤◌, length}
use Rattle.mail_text.specs.Cuts.{IsWithin}
use Rattle.mail_text.proofs.header_and_body.after_header.Given as goal

abbrev pub invariant-loop : goal.invariant-loop
invariant-loop l = (l.counter + length l.rest ≤ length l.text) × IsWithin l.text l.rest
