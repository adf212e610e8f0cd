use Rattle.mail_audit.proofs.FormLemmas.{if_listed}
use Rattle.mail_audit.proofs.line_forms.are_ids.Goals as goal

pub returns : goal.returns
returns c = if_listed c.is_spelled.result c.args.text.now c.is_spelled.ensures
