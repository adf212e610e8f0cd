use Rattle.crdt_ops.proofs.TextLemmas.{extends_of_append}
use Rattle.crdt_ops.proofs.write.push_word_and_ids.Goals as goal

pub returns-in_err-push_word-clause-extended : goal.returns-in_err-push_word-clause-extended
returns-in_err-push_word-clause-extended c = c.push_word.ensures.extended

pub returns-clause-extended : goal.returns-clause-extended
returns-clause-extended c = extends_of_append _ _ _ _ c.in_ok-push_word.ensures.ok c.push_ids_field.ensures.extended
