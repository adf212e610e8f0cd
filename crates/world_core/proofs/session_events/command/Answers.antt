use Rattle.world_core.proofs.AwaitLemmas.{awaits_awake}
use Rattle.world_core.proofs.session_events.command.Goals as goal

pub command-requires : goal.command-requires
command-requires c = awaits_awake c.args.node.now.state c.args.session (c.awaits.ensures.0 c.if-awaits.true)
