use Rattle.crdt_ops.specs.Text.{id_text}
use Rattle.crdt_ops.proofs.LoopLemmas.{first_listed, none_of}
use Rattle.crdt_ops.proofs.TextLemmas.{extends_of_append, two_appended}
use Rattle.crdt_ops.proofs.write.push_ids.Goals as goal

pub returns-in-empty-clause-ok : goal.returns-in-empty-clause-ok
returns-in-empty-clause-ok c = rw (none_of c.args.ids.now c.in-empty.len_below) c.push_octet.ensures.ok

pub returns-in_ok-push_id-in-len1-up-clause-ok : goal.returns-in_ok-push_id-in-len1-up-clause-ok
returns-in_ok-push_id-in-len1-up-clause-ok c =
    two_appended _ _ _ _ _ _ _ c.in_ok-push_id-in-len1-up.ensures.ok c.push_more_ids.ensures.ok (first_listed id_text c.args.ids.now c.first-item.result c.in-len1-up.len_at_least c.first-item.is)

pub returns-in_ok-push_id-in-len1-up-clause-extended : goal.returns-in_ok-push_id-in-len1-up-clause-extended
returns-in_ok-push_id-in-len1-up-clause-extended c = extends_of_append _ _ _ _ c.in_ok-push_id-in-len1-up.ensures.ok c.push_more_ids.ensures.extended
