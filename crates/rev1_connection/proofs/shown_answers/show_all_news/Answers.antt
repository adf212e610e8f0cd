use Rattle.std.proofs.Common.{take, drop, sym, ◌∙◌}
use Rattle.std.proofs.lemmas.List.{take-append-drop}
use Rattle.imap_connection.proofs.TurnLemmas.{at_error}
use Rattle.rev1_connection.proofs.shown_answers.show_all_news.Goals as goal

pub returns-in_err-show_news-clause-err : goal.returns-in_err-show_news-clause-err
returns-in_err-show_news-clause-err c =
    let i = c.loop-answer.answer-index in
    let given = c.args.answers.now in
    at_error c.from_residual.result _ (take i given, (drop i given, sym (take-append-drop i given)), c.in_err-show_news.ensures.err ∙ c.loop-answer.invariant)
