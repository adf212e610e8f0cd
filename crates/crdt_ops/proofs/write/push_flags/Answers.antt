use Rattle.std.proofs.Common.{[], ◌∷◌, ◌++◌, refl}
use Rattle.imap_types.specs.Flags.{flag_texts}
use Rattle.crdt_ops.specs.Text.{join_fields}
use Rattle.crdt_ops.proofs.TextLemmas.{extends_of_append, two_appended}
use Rattle.crdt_ops.proofs.write.push_flags.Goals as goal

pub returns-in_err-push_octet-clause-extended : goal.returns-in_err-push_octet-clause-extended
returns-in_err-push_octet-clause-extended c = c.push_octet.ensures.extended

pub returns-in_err-push_all_flags-clause-extended : goal.returns-in_err-push_all_flags-clause-extended
returns-in_err-push_all_flags-clause-extended c = extends_of_append _ _ _ _ c.in_ok-push_octet.ensures.ok c.push_all_flags.ensures.extended

pub returns-clause-ok : goal.returns-clause-ok
returns-clause-ok c =
    let fields = join_fields 32 (flag_texts c.args.flags.now) in
    two_appended _ _ _ _ (40 ∷ []) (fields ++ 41 ∷ []) _ c.in_ok-push_octet.ensures.ok
    (two_appended _ _ _ _ fields (41 ∷ []) _ c.in_ok-push_all_flags.ensures.ok c.push_octet-2.ensures.ok refl)
    refl

pub returns-clause-extended : goal.returns-clause-extended
returns-clause-extended c = extends_of_append _ _ _ _ c.in_ok-push_octet.ensures.ok (extends_of_append _ _ _ _ c.in_ok-push_all_flags.ensures.ok c.push_octet-2.ensures.extended)
