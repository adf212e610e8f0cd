use Rattle.world_core.proofs.PlaceLemmas.{none_more, place_here}
use Rattle.world_core.proofs.node_places.place_of.Goals as goal

pub returns-then-is_named : goal.returns-then-is_named
returns-then-is_named c = place_here c.args.nodes.now c.loop-place.place _ c.args.name c.loop-place-test.true c.index-nodes-place.is c.loop-place.invariant (c.is_named.ensures.yes c.if-is_named.true)

pub loop-place-preserved : goal.loop-place-preserved
loop-place-preserved c = none_more c.args.nodes.now c.loop-place.place _ c.args.name c.loop-place-test.true c.index-nodes-place.is c.loop-place.invariant (c.is_named.ensures.no c.if-is_named.false)
