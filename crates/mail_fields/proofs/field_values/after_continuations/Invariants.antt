use Rattle.std.proofs.Common.{◌+◌, ◌≤◌, length}
use Rattle.mail_text.specs.Cuts.{IsInContinuation}
use Rattle.mail_fields.proofs.field_values.after_continuations.Given as goal

abbrev pub invariant-loop : goal.invariant-loop
invariant-loop l = (l.counter + length l.rest ≤ length l.text) × IsInContinuation l.text l.rest
