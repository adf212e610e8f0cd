use Rattle.std.proofs.Common.{◌++◌, ap, ◌∙◌}
use Rattle.imap_commands.specs.declared.session.State.{State}
use Rattle.imap_node.specs.InputEffects.{sync_result_after}
use Rattle.imap_node.proofs.sync_and_state.rebuild_state.Goals as goal

pub returns-clause-answers : goal.returns-clause-answers
returns-clause-answers c =
    let after = c.args.replica.now.applied ++ c.args.ops.now in
    (c.in_ok-answers.ensures {u = tt}).answers
    ∙ ap (λ (state : State). (sync_result_after c.args.replica.now.start after state c.args.front.now).answers) (c.in_ok-state.ensures {u = tt})

pub returns-clause-state : goal.returns-clause-state
returns-clause-state c =
    let after = c.args.replica.now.applied ++ c.args.ops.now in
    (c.in_ok-answers.ensures {u = tt}).state
    ∙ ap (λ (state : State). (sync_result_after c.args.replica.now.start after state c.args.front.now).state) (c.in_ok-state.ensures {u = tt})

pub returns-clause-can : goal.returns-clause-can
returns-clause-can c = record { make = tt; leaves = (c.in_ok-answers.ensures {u = tt}).shown }
