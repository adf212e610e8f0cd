use Rattle.std.proofs.Common.{◌++◌, ◌∷◌, [], ◌∙◌}
use Rattle.std.proofs.lemmas.Result.{err_from_is_err_and}
use Rattle.rev1_fetch.proofs.SectionLemmas.{number_unread}
use Rattle.rev1_fetch.proofs.fetch_items.numbered_section.Goals as goal

pub returns-in_err-section : goal.returns-in_err-section
returns-in_err-section c =
    let p = err_from_is_err_and c.from_residual-in_err-section.result c.from_residual-in_err-section.ensures.1 in
    rw (p.1, p.2) (number_unread (c.args.front.now ++ 91 ∷ []) c.args.rest.now c.deref.result.now c.args.path c.args.is_mime (c.deref.ensures.value ∙ c.in_ok-item.ensures) c.in_err-section.field-0.0 c.in_err-section.ensures)
