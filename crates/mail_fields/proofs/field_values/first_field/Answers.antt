use Rattle.std.proofs.Common.{◌∙◌, sym}
use Rattle.mail_text.proofs.WordLemmas.{is_first}
use Rattle.mail_fields.proofs.field_values.first_field.Goals as goal

pub returns : goal.returns
returns c =
    is_first c.args.text.now c.first_line.result.0.now c.first_line.result.1.now c.split_at.result.0.now c.after_continuations-rest.result.now
    c.first_line.ensures.lines c.first_line.ensures.parts c.first_line.ensures.shorter (sym c.is_empty_line.ensures ∙ c.if-is_empty_line.false)
    c.after_continuations-rest.ensures.cut c.after_continuations-rest.ensures.within c.split_at.ensures.front
