use Rattle.std.proofs.Common.{List, ℕ, subst}
use Rattle.rev1_front.proofs.LsubLemmas.{ShowsAnswer, lines_all, lines_begun, lines_next, lines_part}
use Rattle.rev1_front.proofs.ResultLemmas.{at_error}
use Rattle.rev1_front.proofs.lsub.show_lsub.Goals as goal

pub loop-answer-init : goal.loop-answer-init
loop-answer-init c = lines_begun c.args.mode c.args.pattern.now c.args.answers.now c.args.text.now.items c.new-levels.result.items c.new-levels.ensures.items

pub loop-answer-preserved : goal.loop-answer-preserved
loop-answer-preserved c =
    lines_next c.args.mode c.args.pattern.now c.args.answers.now c.args.text.now.items c.show_answer.result c.loop-answer.answer-index c.answer-item.result c.loop-answer.text.items c.show_answer.new.text.items c.loop-answer.levels.items c.show_answer.new.levels.items
    c.loop-answer-test.true c.answer-item.is c.loop-answer.invariant
    (subst (λ (p : List ℕ). ShowsAnswer c.show_answer.result c.args.mode p c.args.answers.now c.answer-item.result c.loop-answer.text.items c.show_answer.new.text.items c.loop-answer.levels.items c.show_answer.new.levels.items)
    c.as_bytes-octets.ensures c.in_ok-show_answer.ensures.ok)

pub returns-clause-ok : goal.returns-clause-ok
returns-clause-ok c = lines_all c.args.mode c.args.pattern.now c.args.answers.now c.args.text.now.items c.loop-answer.answer-index c.loop-answer.text.items c.loop-answer.levels.items c.loop-answer-test.false c.loop-answer.invariant

pub returns-in_err-show_answer-clause-err : goal.returns-in_err-show_answer-clause-err
returns-in_err-show_answer-clause-err c =
    at_error c.from_residual.result _
    (lines_part c.args.mode c.args.pattern.now c.args.answers.now c.args.text.now.items c.loop-answer.answer-index c.loop-answer.text.items c.show_answer.new.text.items c.loop-answer.levels.items c.in_err-show_answer.ensures.err c.loop-answer.invariant)
