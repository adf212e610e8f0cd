use Rattle.rev1_front.proofs.ShownLemmas.{each_all, each_begun, each_next, each_part}
use Rattle.rev1_front.proofs.ResultLemmas.{at_error}
use Rattle.rev1_front.proofs.shown.show_each.Goals as goal

pub loop-answer-init : goal.loop-answer-init
loop-answer-init c = each_begun c.args.mode c.args.form.now c.args.answers.now c.args.text.now.items

pub loop-answer-preserved : goal.loop-answer-preserved
loop-answer-preserved c =
    each_next c.args.mode c.args.form.now c.args.answers.now c.args.text.now.items c.loop-answer.answer-index c.answer-item.result c.loop-answer.text.items c.show_answer.new.text.items
    c.loop-answer-test.true c.answer-item.is c.loop-answer.invariant c.in_ok-show_answer.ensures.ok

pub returns-clause-ok : goal.returns-clause-ok
returns-clause-ok c = each_all c.args.mode c.args.form.now c.args.answers.now c.args.text.now.items c.loop-answer.answer-index c.loop-answer.text.items c.loop-answer-test.false c.loop-answer.invariant

pub returns-in_err-show_answer-clause-err : goal.returns-in_err-show_answer-clause-err
returns-in_err-show_answer-clause-err c =
    at_error c.from_residual.result _
    (each_part c.args.mode c.args.form.now c.args.answers.now c.args.text.now.items c.loop-answer.answer-index c.loop-answer.text.items c.show_answer.new.text.items c.in_err-show_answer.ensures.err c.loop-answer.invariant)
