use Rattle.std.proofs.Common.{rules, sym, ◌∙◌, true≢false}
use Rattle.imap_node.specs.declared.input.Input.TheVariants.{Command}
use Rattle.imap_connection.proofs.OtherStepsLemmas.{awaits_after_others}
use Rattle.imap_connection.proofs.node_port.NodePort.give_command.Goals as goal

pub command-requires : goal.command-requires
command-requires g c = awaits_after_others _ _ _ (Command c.take_turn-moment.result c.args.tagged) c.take_turn-moment.ensures.other_steps (search rules, λ i. true≢false (sym (c.is_idling.ensures.1 i) ∙ c.if-is_idling.false))
