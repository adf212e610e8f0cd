use Rattle.std.proofs.Common.{[], ◌∷◌, ◌++◌, codes, refl}
use Rattle.crdt_ops.specs.Text.{flags_text, id_text, ids_text, name_text}
use Rattle.crdt_ops.proofs.TextLemmas.{extends_of_append, two_appended}
use Rattle.crdt_ops.proofs.write.push_store.Goals as goal

pub returns-in_err-push_word-clause-extended : goal.returns-in_err-push_word-clause-extended
returns-in_err-push_word-clause-extended c = c.push_word.ensures.extended

pub returns-in_err-push_flags_field-clause-extended : goal.returns-in_err-push_flags_field-clause-extended
returns-in_err-push_flags_field-clause-extended c = extends_of_append _ _ _ _ c.in_ok-push_word.ensures.ok c.push_flags_field.ensures.extended

pub returns-in_err-push_ids_field-clause-extended : goal.returns-in_err-push_ids_field-clause-extended
returns-in_err-push_ids_field-clause-extended c = extends_of_append _ _ _ _ c.in_ok-push_word.ensures.ok (extends_of_append _ _ _ _ c.in_ok-push_flags_field.ensures.ok c.push_ids_field.ensures.extended)

pub returns-in_err-push_octet-clause-extended : goal.returns-in_err-push_octet-clause-extended
returns-in_err-push_octet-clause-extended c = extends_of_append _ _ _ _ c.in_ok-push_word.ensures.ok (extends_of_append _ _ _ _ c.in_ok-push_flags_field.ensures.ok (extends_of_append _ _ _ _ c.in_ok-push_ids_field.ensures.ok c.push_octet.ensures.extended))

pub returns-clause-ok : goal.returns-clause-ok
returns-clause-ok c =
    let origin = id_text c.args.origin in
    let old_ids = 32 ∷ ids_text c.args.old_ids.now in
    let flags = 32 ∷ flags_text c.args.flags.now in
    let word = codes "store " ++ name_text c.args.folder.now in
    two_appended _ _ _ _ word (flags ++ (old_ids ++ 32 ∷ origin)) _ c.in_ok-push_word.ensures.ok
    (two_appended _ _ _ _ flags (old_ids ++ 32 ∷ origin) _ c.in_ok-push_flags_field.ensures.ok
    (two_appended _ _ _ _ old_ids (32 ∷ origin) _ c.in_ok-push_ids_field.ensures.ok
    (two_appended _ _ _ _ (32 ∷ []) origin _ c.in_ok-push_octet.ensures.ok c.push_id.ensures.ok refl) refl) refl)
    refl

pub returns-clause-extended : goal.returns-clause-extended
returns-clause-extended c = extends_of_append _ _ _ _ c.in_ok-push_word.ensures.ok (extends_of_append _ _ _ _ c.in_ok-push_flags_field.ensures.ok (extends_of_append _ _ _ _ c.in_ok-push_ids_field.ensures.ok (extends_of_append _ _ _ _ c.in_ok-push_octet.ensures.ok c.push_id.ensures.extended)))
