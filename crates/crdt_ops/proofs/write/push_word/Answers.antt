use Rattle.crdt_ops.proofs.TextLemmas.{extends_of_append}
use Rattle.crdt_ops.proofs.write.push_word.Goals as goal

pub returns-in_err-push_octets-clause-extended : goal.returns-in_err-push_octets-clause-extended
returns-in_err-push_octets-clause-extended c = c.push_octets.ensures.extended

pub returns-clause-extended : goal.returns-clause-extended
returns-clause-extended c = extends_of_append _ _ _ _ c.in_ok-push_octets.ensures.ok c.push_escaped.ensures.extended
