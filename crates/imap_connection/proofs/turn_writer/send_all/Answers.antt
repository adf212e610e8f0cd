use Rattle.std.proofs.Common.{take, drop, ◌∙◌}
use Rattle.imap_connection.specs.Conversation.{turns_of_answers}
use Rattle.imap_connection.proofs.TurnLemmas.{at_error, sent_parts}
use Rattle.imap_connection.proofs.turn_writer.send_all.Goals as goal

pub returns-in_err-send-clause-err : goal.returns-in_err-send-clause-err
returns-in_err-send-clause-err c =
    let i = c.loop-answer.answer-index in
    let given = c.args.answers.now in
    at_error c.from_residual.result _ (turns_of_answers (take i given), c.in_err-send.ensures.err ∙ c.loop-answer.invariant, (turns_of_answers (drop i given), sent_parts i given))
