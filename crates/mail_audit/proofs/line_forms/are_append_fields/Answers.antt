use Rattle.std.proofs.Common.{◌≡◌, ℕ, List, ◌++◌, ap, ◌∙◌, codes, rules}
use Rattle.mail_audit.proofs.FormLemmas.{if_append}
use Rattle.mail_audit.proofs.line_forms.are_append_fields.Goals as goal

pub returns : goal.returns
returns c =
    let copied : c.in_ok-front.front.items ≡ c.args.id.now = search rules in
    let front : c.deref.result.now ≡ c.args.id.now ++ codes " - append INBOX " =
    c.deref.ensures.value ∙ (c.in_ok-extend_from_slice.ensures {u = tt}).items ∙ ap (λ (xs : List ℕ). xs ++ codes " - append INBOX ") copied in
    if_append c.is_spelled.result c.args.id.now c.args.rest.now c.deref.result.now c.requires front c.is_spelled.ensures
