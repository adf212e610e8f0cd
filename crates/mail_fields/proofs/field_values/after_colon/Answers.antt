use Rattle.std.proofs.Common.{◌∙◌, sym}
use Rattle.mail_text.proofs.WordLemmas.{after_colon_at, after_colon_none, drop_all}
use Rattle.mail_fields.proofs.field_values.after_colon.Goals as goal

pub returns-in-Some : goal.returns-in-Some
returns-in-Some c = c.split_at.ensures.back ∙ sym (after_colon_at c.args.octets.now c.in-Some.place c.in-Some.ensures.0.high c.in-Some.ensures.1 c.in-Some.ensures.0.before)

pub returns-in-None : goal.returns-in-None
returns-in-None c = c.split_at-in-None.ensures.back ∙ drop_all c.args.octets.now ∙ sym (after_colon_none c.args.octets.now c.in-None.ensures)
