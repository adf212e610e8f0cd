use Rattle.mail_text.proofs.LineLemmas.{first_cut, whole}
use Rattle.mail_fields.proofs.field_values.first_line.Goals as goal

pub returns-in-Some-clause-lines : goal.returns-in-Some-clause-lines
returns-in-Some-clause-lines c = rw (c.split_at.ensures.front, c.split_at.ensures.back) (first_cut c.args.text.now c.in-Some.place c.in-Some.ensures.1 c.in-Some.ensures.0.before)

pub returns-in-None-clause-lines : goal.returns-in-None-clause-lines
returns-in-None-clause-lines c = whole c.args.text.now _ _ c.requires c.in-None.ensures c.split_at-in-None.ensures.front c.split_at-in-None.ensures.back
