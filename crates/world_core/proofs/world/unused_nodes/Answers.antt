use Rattle.world_core.proofs.BeginLemmas.{from_one_at}
use Rattle.world_core.proofs.world.unused_nodes.Goals as goal

pub new-requires : goal.new-requires
new-requires c = from_one_at c.args.starts.now c.loop-start.start-index _ c.requires c.loop-start-test.true c.start-item.is
