use Rattle.world_core.proofs.PlaceLemmas.{issued_from}
use Rattle.world_core.proofs.node_places.find_issued.Goals as goal

pub returns-in-Some : goal.returns-in-Some
returns-in-Some c = issued_from c.find_in.result (λ entry. entry.now) c.args.nodes.now c.args.id c.in-Some.place c.index-nodes-place.result c.op_list.result.now c.in-Some.ensures c.index-nodes-place.is c.op_list.ensures.applied c.find_in.ensures
