use Rattle.world_core.specs.Replicas.{all_without_room}
use Rattle.world_core.proofs.RunLemmas.{ends_fair, ends_headline, ends_lasting}
use Rattle.world_core.proofs.run_events.run_whole.Goals as goal

pub of-requires : goal.of-requires
of-requires c = ends_fair c.args.world (all_without_room c.into_nodes-nodes.result.items) (all_without_room c.run_nodes-nodes.result.items) c.args.events.items c.run_nodes-nodes.new.list.items c.into_nodes-nodes.ensures.nodes c.into_nodes-nodes.ensures.fair c.run_nodes-nodes.ensures

pub returns-clause-headline : goal.returns-clause-headline
returns-clause-headline c = ends_headline c.args.world (all_without_room c.into_nodes-nodes.result.items) (all_without_room c.run_nodes-nodes.result.items) c.of.result c.args.events.items c.run_nodes-nodes.new.list.items c.into_nodes-nodes.ensures.nodes c.of.ensures c.into_nodes-nodes.ensures.fair c.run_nodes-nodes.ensures

pub returns-clause-for_good : goal.returns-clause-for_good
returns-clause-for_good c = ends_lasting c.args.world (all_without_room c.into_nodes-nodes.result.items) (all_without_room c.run_nodes-nodes.result.items) c.of.result c.args.events.items c.run_nodes-nodes.new.list.items c.into_nodes-nodes.ensures.nodes c.of.ensures c.into_nodes-nodes.ensures.fair c.run_nodes-nodes.ensures
