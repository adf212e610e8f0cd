use Rattle.std.proofs.Common.{refl}
use Rattle.world_core.specs.declared.event.Event.TheVariants as events
use Rattle.world_core.proofs.StepLemmas.{moved}
use Rattle.world_core.proofs.world_step.command.Goals as goal

pub returns-in-Some : goal.returns-in-Some
returns-in-Some c = moved c.args.nodes.now _ (events.Command c.args.at c.args.session c.args.moment c.args.tagged) c.command.result c.in-Some.place c.index-nodes-place.result c.command.new.node c.in-Some.ensures c.index-nodes-place.is refl c.command.ensures
