use Rattle.std.proofs.Common.{refl, subst}
use Rattle.imap_answers.specs.declared.answer.Answer.{Answer}
use Rattle.imap_query.specs.Patterns.{IsIn}
use Rattle.rev1_front.proofs.LsubLemmas.{in_at, not_listed_more}
use Rattle.rev1_front.proofs.ResultLemmas.{not_so}
use Rattle.rev1_front.proofs.lsub.is_listed.Goals as goal

pub returns-then-is_of_name : goal.returns-then-is_of_name
returns-then-is_of_name c =
    let it = c.is_of_name.ensures.0 c.if-is_of_name.true in (
      λ t. (it.0, it.1, subst (λ (x : Answer). IsIn x c.args.answers.now) it.2 (in_at c.args.answers.now c.loop-answer.answer-index c.answer-item.result c.loop-answer-test.true c.answer-item.is)),
      λ i. refl,
    )

pub loop-answer-preserved : goal.loop-answer-preserved
loop-answer-preserved c =
    not_listed_more c.args.level.now c.args.answers.now c.loop-answer.answer-index c.answer-item.result c.loop-answer-test.true c.answer-item.is
    (λ h. not_so c.is_of_name.result c.is_of_name.ensures.1 c.if-is_of_name.false h)
    c.loop-answer.invariant
