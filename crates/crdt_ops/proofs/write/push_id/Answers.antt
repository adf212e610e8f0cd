use Rattle.crdt_ops.proofs.TextLemmas.{extends_of_append}
use Rattle.crdt_ops.proofs.write.push_id.Goals as goal

pub returns-in_err-push_number-clause-extended : goal.returns-in_err-push_number-clause-extended
returns-in_err-push_number-clause-extended c = c.push_number.ensures.extended

pub returns-in_err-push_octet-clause-extended : goal.returns-in_err-push_octet-clause-extended
returns-in_err-push_octet-clause-extended c = extends_of_append _ _ _ _ c.in_ok-push_number.ensures.ok c.push_octet.ensures.extended

pub returns-clause-extended : goal.returns-clause-extended
returns-clause-extended c = extends_of_append _ _ _ _ c.in_ok-push_number.ensures.ok (extends_of_append _ _ _ _ c.in_ok-push_octet.ensures.ok c.push_number-2.ensures.extended)
