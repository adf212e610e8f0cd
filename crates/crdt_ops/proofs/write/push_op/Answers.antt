use Rattle.std.proofs.Common.{[], ◌∷◌, ◌++◌, refl}
use Rattle.crdt_ops.specs.Text.{clock_text, id_text, kind_text}
use Rattle.crdt_ops.proofs.TextLemmas.{extends_of_append, two_appended}
use Rattle.crdt_ops.proofs.write.push_op.Goals as goal

pub returns-in_err-push_id-clause-extended : goal.returns-in_err-push_id-clause-extended
returns-in_err-push_id-clause-extended c = c.push_id.ensures.extended

pub returns-in_err-push_octet-clause-extended : goal.returns-in_err-push_octet-clause-extended
returns-in_err-push_octet-clause-extended c = extends_of_append _ _ _ _ c.in_ok-push_id.ensures.ok c.push_octet.ensures.extended

pub returns-clause-ok : goal.returns-clause-ok
returns-clause-ok c =
    let tail = clock_text c.args.op.now.clock ++ 32 ∷ kind_text c.args.op.now.kind in
    two_appended _ _ _ _ (id_text c.args.op.now.id) (32 ∷ tail) _ c.in_ok-push_id.ensures.ok
    (two_appended _ _ _ _ (32 ∷ []) tail _ c.in_ok-push_octet.ensures.ok c.push_clock_and_kind.ensures.ok refl)
    refl

pub returns-clause-extended : goal.returns-clause-extended
returns-clause-extended c = extends_of_append _ _ _ _ c.in_ok-push_id.ensures.ok (extends_of_append _ _ _ _ c.in_ok-push_octet.ensures.ok c.push_clock_and_kind.ensures.extended)
