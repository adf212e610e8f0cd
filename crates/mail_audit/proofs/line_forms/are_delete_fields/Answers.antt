use Rattle.mail_audit.proofs.FormLemmas.{if_delete}
use Rattle.mail_audit.proofs.line_forms.are_delete_fields.Goals as goal

pub returns : goal.returns
returns c = if_delete c.is_spelled.result c.args.fields.now c.is_spelled.ensures
