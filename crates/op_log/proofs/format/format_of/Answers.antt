use Rattle.std.proofs.Common.{◌∙◌, Some, None, codes, sym}
use Rattle.std.proofs.lemmas.Bool.Decides.{Decides-eqb}
use Rattle.std.proofs.lemmas.Slice.Eq.{strip_prefix_is}
use Rattle.op_log.proofs.FormatLemmas.{format_at_cut, format_at_uncut, format_at_without}
use Rattle.op_log.proofs.format.format_of.Goals as goal

pub returns-in_err-field : goal.returns-in_err-field
returns-in_err-field c =
    c.from_residual.ensures ∙ format_at_without c.args.text.now (strip_prefix_is Decides-eqb c.args.text.now (codes "log ") None c.in_err-field.ensures.cases)

pub returns-in_err-format : goal.returns-in_err-format
returns-in_err-format c =
    let field = c.in_ok-field.field in
    c.from_residual-in_err-format.ensures
    ∙ format_at_uncut c.args.text.now field.now (strip_prefix_is Decides-eqb c.args.text.now (codes "log ") (Some field) c.in_ok-field.ensures.cases) (sym c.in_err-format.ensures)

pub returns : goal.returns
returns c =
    let field = c.in_ok-field.field in
    c.number.ensures.read
    ∙ format_at_cut c.args.text.now field.now c.in_ok-format.format.now _ (strip_prefix_is Decides-eqb c.args.text.now (codes "log ") (Some field) c.in_ok-field.ensures.cases) (sym c.in_ok-format.ensures)
