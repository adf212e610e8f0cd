use Rattle.std.proofs.Common.{◌++◌, IfOk, subst, sym}
use Rattle.imap_node.specs.declared.input.Input.{Input}
use Rattle.imap_node.specs.InputEffects.{effect_from}
use Rattle.imap_node.specs.Responses.{IsInputEffect}
use Rattle.imap_node.proofs.input_effect.draft_effect.Goals as goal

pub returns-in-Command : goal.returns-in-Command
returns-in-Command c =
    subst (λ (input : Input). IfOk c.draft_command_effect.result (λ effect. IsInputEffect c.args.replica.now.start c.args.replica.now.applied (c.args.replica.now.applied ++ c.args.ops.now) c.args.session.now input (effect_from c.args.session.now.state effect))) (sym c.in-Command.is)
    c.draft_command_effect.ensures
