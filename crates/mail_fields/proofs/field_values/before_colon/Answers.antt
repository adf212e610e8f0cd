use Rattle.std.proofs.Common.{sym}
use Rattle.mail_text.proofs.FieldLemmas.{colon_at, no_colon}
use Rattle.mail_fields.proofs.field_values.before_colon.Goals as goal

pub returns-in-Some : goal.returns-in-Some
returns-in-Some c = sym (colon_at c.args.line.now c.in-Some.place c.in-Some.ensures.0.high c.in-Some.ensures.1 c.in-Some.ensures.0.before)

pub returns-in-None : goal.returns-in-None
returns-in-None c = sym (no_colon c.args.line.now c.in-None.ensures)
