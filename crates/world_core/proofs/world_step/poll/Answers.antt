use Rattle.std.proofs.Common.{refl}
use Rattle.world_core.specs.declared.event.Event.TheVariants as events
use Rattle.world_core.proofs.StepLemmas.{moved}
use Rattle.world_core.proofs.world_step.poll.Goals as goal

pub returns-in-Some : goal.returns-in-Some
returns-in-Some c = moved c.args.nodes.now _ (events.Poll c.args.at c.args.session) c.poll.result c.in-Some.place c.index-nodes-place.result c.poll.new.node (c.in-Some.ensures {u = tt}) c.index-nodes-place.is refl c.poll.ensures
