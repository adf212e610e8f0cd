use Rattle.crdt_ops.proofs.LoopLemmas.{none_of}
use Rattle.crdt_ops.proofs.TextLemmas.{extends_of_append}
use Rattle.crdt_ops.proofs.write.push_clock.Goals as goal

pub returns-in-empty-clause-ok : goal.returns-in-empty-clause-ok
returns-in-empty-clause-ok c = rw (none_of c.args.entries.now c.in-empty.len_below) c.push_octet.ensures.ok

pub returns-in_ok-push_entry-in-len1-up-clause-extended : goal.returns-in_ok-push_entry-in-len1-up-clause-extended
returns-in_ok-push_entry-in-len1-up-clause-extended c = extends_of_append _ _ _ _ c.in_ok-push_entry-in-len1-up.ensures.ok c.push_more_entries.ensures.extended
