use Rattle.std.proofs.Common.{refl}
use Rattle.crdt_ops.proofs.TextLemmas.{extends_of_append, two_appended}
use Rattle.crdt_ops.proofs.write.push_flags_field.Goals as goal

pub returns-in_err-push_octet-clause-extended : goal.returns-in_err-push_octet-clause-extended
returns-in_err-push_octet-clause-extended c = c.push_octet.ensures.extended

pub returns-clause-ok : goal.returns-clause-ok
returns-clause-ok c = two_appended _ _ _ _ _ _ _ c.in_ok-push_octet.ensures.ok c.push_flags.ensures.ok refl

pub returns-clause-extended : goal.returns-clause-extended
returns-clause-extended c = extends_of_append _ _ _ _ c.in_ok-push_octet.ensures.ok c.push_flags.ensures.extended
