use Rattle.std.proofs.Common.{◌∙◌, ap}
use Rattle.rev1_rename.proofs.ReplyLemmas.{named_more, unnamed_more}
use Rattle.rev1_rename.proofs.reply_facts.names_of_answers.Goals as goal
use Rattle.rev1_rename.proofs.reply_facts.names_of_answers.Goals.{in-Some+in_ok-copy-in-Some+in_ok-push-in-Some, in-None}

pub loop-answer-preserved : goal.loop-answer-preserved
loop-answer-preserved c =
    let answers = c.args.answers.now in
    let i = c.loop-answer.answer-index in
    elim c.match-listed_name.branch [
      | in-Some+in_ok-copy-in-Some+in_ok-push-in-Some w ↦ ap (λ names. names.items) w.names-is ∙ named_more answers i c.answer-item.result w.in-Some.name w.in_ok-copy-in-Some.field-0 c.loop-answer.names.items w.push.new.self.items c.listed_name.result c.loop-answer-test.true c.answer-item.is c.listed_name.ensures w.in-Some.is w.in_ok-copy-in-Some.ensures w.in_ok-push-in-Some.ensures.items c.loop-answer.invariant
      | in-None w ↦ ap (λ names. names.items) w.names-is ∙ unnamed_more answers i c.answer-item.result c.loop-answer.names.items c.listed_name.result c.loop-answer-test.true c.answer-item.is c.listed_name.ensures w.in-None.is c.loop-answer.invariant
    ]
