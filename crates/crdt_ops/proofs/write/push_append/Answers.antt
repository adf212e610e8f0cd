use Rattle.std.proofs.Common.{[], ◌∷◌, ◌++◌, codes, refl}
use Rattle.imap_types.specs.Escape.{escape_text}
use Rattle.imap_types.specs.declared.escape.Escape.TheVariants.{Text}
use Rattle.crdt_ops.specs.Text.{flags_text, name_text}
use Rattle.crdt_ops.proofs.TextLemmas.{extends_of_append, two_appended}
use Rattle.crdt_ops.proofs.write.push_append.Goals as goal

pub returns-in_err-push_word-clause-extended : goal.returns-in_err-push_word-clause-extended
returns-in_err-push_word-clause-extended c = c.push_word.ensures.extended

pub returns-in_err-push_flags_field-clause-extended : goal.returns-in_err-push_flags_field-clause-extended
returns-in_err-push_flags_field-clause-extended c = extends_of_append _ _ _ _ c.in_ok-push_word.ensures.ok c.push_flags_field.ensures.extended

pub returns-in_err-push_octet-clause-extended : goal.returns-in_err-push_octet-clause-extended
returns-in_err-push_octet-clause-extended c = extends_of_append _ _ _ _ c.in_ok-push_word.ensures.ok (extends_of_append _ _ _ _ c.in_ok-push_flags_field.ensures.ok c.push_octet.ensures.extended)

pub returns-in_err-push_octets-clause-extended : goal.returns-in_err-push_octets-clause-extended
returns-in_err-push_octets-clause-extended c = extends_of_append _ _ _ _ c.in_ok-push_word.ensures.ok (extends_of_append _ _ _ _ c.in_ok-push_flags_field.ensures.ok (extends_of_append _ _ _ _ c.in_ok-push_octet.ensures.ok c.push_octets.ensures.extended))

pub returns-in_err-push_octets-2-clause-extended : goal.returns-in_err-push_octets-2-clause-extended
returns-in_err-push_octets-2-clause-extended c = extends_of_append _ _ _ _ c.in_ok-push_word.ensures.ok (extends_of_append _ _ _ _ c.in_ok-push_flags_field.ensures.ok (extends_of_append _ _ _ _ c.in_ok-push_octet.ensures.ok (extends_of_append _ _ _ _ c.in_ok-push_octets.ensures.ok c.push_octets-2.ensures.extended)))

pub returns-clause-ok : goal.returns-clause-ok
returns-clause-ok c =
    let escaped = escape_text Text c.args.text.now in
    let marked = codes " =" ++ escaped in
    let dated = c.args.date.now ++ marked in
    let flags = 32 ∷ flags_text c.args.flags.now in
    let word = codes "append " ++ name_text c.args.folder.now in
    two_appended _ _ _ _ word (flags ++ 32 ∷ dated) _ c.in_ok-push_word.ensures.ok
    (two_appended _ _ _ _ flags (32 ∷ dated) _ c.in_ok-push_flags_field.ensures.ok
    (two_appended _ _ _ _ (32 ∷ []) dated _ c.in_ok-push_octet.ensures.ok
    (two_appended _ _ _ _ c.args.date.now marked _ (rw c.as_bytes.ensures.value at c.in_ok-push_octets.ensures.ok)
    (two_appended _ _ _ _ (codes " =") escaped _ c.in_ok-push_octets-2.ensures.ok (rw c.as_bytes-2.ensures at c.push_escaped.ensures.ok) refl) refl) refl) refl)
    refl

pub returns-clause-extended : goal.returns-clause-extended
returns-clause-extended c = extends_of_append _ _ _ _ c.in_ok-push_word.ensures.ok (extends_of_append _ _ _ _ c.in_ok-push_flags_field.ensures.ok (extends_of_append _ _ _ _ c.in_ok-push_octet.ensures.ok (extends_of_append _ _ _ _ c.in_ok-push_octets.ensures.ok (extends_of_append _ _ _ _ c.in_ok-push_octets-2.ensures.ok c.push_escaped.ensures.extended))))
