use Rattle.std.proofs.Common.{sym}
use Rattle.op_log.proofs.LineLemmas.{first_found, none_given, recovered_damaged, recovered_unfinished}
use Rattle.op_log.proofs.line.first_text.Goals as goal

pub returns-in_err-line : goal.returns-in_err-line
returns-in_err-line c = none_given c.from_residual.result _ _ c.from_residual.ensures (recovered_unfinished c.args.log.now (sym c.in_err-line.ensures))

pub returns-in_err-text : goal.returns-in_err-text
returns-in_err-text c =
    none_given c.from_residual-in_err-text.result _ _ c.from_residual-in_err-text.ensures
    (recovered_damaged c.args.log.now c.in_ok-line.line.now c.in_ok-line.after.now (sym c.in_ok-line.ensures) (sym c.in_err-text.ensures))

pub returns : goal.returns
returns c = first_found c.args.log.now c.in_ok-line.line.now c.in_ok-line.after.now c.in_ok-text.text.now (sym c.in_ok-line.ensures) (sym c.in_ok-text.ensures)
