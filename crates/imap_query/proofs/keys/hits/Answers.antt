use Rattle.std.proofs.Common.{◌∙◌, arith}
use Rattle.std.proofs.lemmas.Result.{IfOk-weaker}
use Rattle.mailbox_rows.specs.RowViews.{listed_message}
use Rattle.imap_query.specs.Tests.{test_holds}
use Rattle.imap_query.proofs.KeyLemmas.{last_result, some_result, test_alone}
use Rattle.imap_query.proofs.keys.hits.Goals as goal

pub returns-in-Some-pop : goal.returns-in-Some-pop
returns-in-Some-pop c key e =
    let f = c.loop-step-test.false in
    last_result (test_holds c.args.last c.args.shown (listed_message c.args.row.now)) key c.args.steps.now c.loop-step.step-index c.loop-step.results.items _ c.in-Some-pop.result (omega arith) c.loop-step.invariant c.in-Some-pop.ensures.items e

pub returns : goal.returns
returns c key e =
    let f = c.loop-step-test.false in
    let z = c.in-None.ensures.cases.0 in
    some_result (test_holds c.args.last c.args.shown (listed_message c.args.row.now)) key c.args.steps.now c.loop-step.step-index c.loop-step.results.items (omega arith) c.loop-step.invariant (omega (arith, c.loop-step.results.ok.0)) e

pub returns-in-Some : goal.returns-in-Some
returns-in-Some c =
    let holds = test_holds c.args.last c.args.shown (listed_message c.args.row.now) in
    IfOk-weaker c.test_holds.result _ _ (λ is h key e. h ∙ test_alone holds key c.args.steps.now c.in-Some.test.now (c.in-Some.ensures {u = tt}) e) c.test_holds.ensures
