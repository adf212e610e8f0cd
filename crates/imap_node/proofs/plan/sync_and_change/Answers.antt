use Rattle.std.proofs.Common.{◌++◌, Option, ap, sym, ◌∙◌}
use Rattle.imap_commands.specs.declared.session.State.{State}
use Rattle.imap_node.specs.InputEffects.{sync_result_after, state_or}
use Rattle.imap_node.proofs.plan.sync_and_change.Goals as goal

pub returns-in_ok-answers-in-Some-clause-answers : goal.returns-in_ok-answers-in-Some-clause-answers
returns-in_ok-answers-in-Some-clause-answers c =
    let replica = c.args.applied.now.replica.now in
    let after = replica.applied ++ c.args.applied.now.ops.now in
    (c.in_ok-answers-in-Some.ensures {u = tt}).answers
    ∙ ap (λ (moved : Option State). (sync_result_after replica.start after (state_or c.args.state.now moved) c.args.sync_input.now).answers) (sym c.in-Some.is)

pub returns-in_ok-answers-in-Some-clause-state : goal.returns-in_ok-answers-in-Some-clause-state
returns-in_ok-answers-in-Some-clause-state c =
    let replica = c.args.applied.now.replica.now in
    let after = replica.applied ++ c.args.applied.now.ops.now in
    (c.in_ok-answers-in-Some.ensures {u = tt}).state
    ∙ ap (λ (moved : Option State). (sync_result_after replica.start after (state_or c.args.state.now moved) c.args.sync_input.now).state) (sym c.in-Some.is)

pub returns-in_ok-answers-in-Some-clause-can : goal.returns-in_ok-answers-in-Some-clause-can
returns-in_ok-answers-in-Some-clause-can c = record { make = tt; leaves = (c.in_ok-answers-in-Some.ensures {u = tt}).shown }
