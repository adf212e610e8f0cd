use Rattle.mail_audit.proofs.FormLemmas.{if_unsubscribe}
use Rattle.mail_audit.proofs.line_forms.are_unsubscribe_fields.Goals as goal

pub returns : goal.returns
returns c = if_unsubscribe c.is_spelled.result c.args.fields.now c.is_spelled.ensures
