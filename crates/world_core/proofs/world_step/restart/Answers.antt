use Rattle.std.proofs.Common.{refl}
use Rattle.world_core.specs.declared.event.Event.TheVariants as events
use Rattle.world_core.proofs.StepLemmas.{moved}
use Rattle.world_core.proofs.world_step.restart.Goals as goal

pub returns-in-Some : goal.returns-in-Some
returns-in-Some c = moved c.args.nodes.now _ (events.Restart c.args.at) c.restart.result c.in-Some.place c.index-nodes-place.result c.restart.new.node c.in-Some.ensures c.index-nodes-place.is refl c.restart.ensures
