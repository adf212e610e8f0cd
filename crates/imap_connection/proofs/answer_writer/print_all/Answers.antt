use Rattle.std.proofs.Common.{take, drop, sym, ◌∙◌}
use Rattle.std.proofs.lemmas.List.{take-append-drop}
use Rattle.imap_connection.proofs.TurnLemmas.{at_error}
use Rattle.imap_connection.proofs.answer_writer.print_all.Goals as goal

pub returns-in_err-print-clause-err : goal.returns-in_err-print-clause-err
returns-in_err-print-clause-err c =
    let i = c.loop-answer.answer-index in
    let given = c.args.answers.now in
    at_error c.from_residual.result _ (take i given, c.in_err-print.ensures.err ∙ c.loop-answer.invariant, (drop i given, sym (take-append-drop i given)))
