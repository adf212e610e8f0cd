use Rattle.std.proofs.Common.{◌∙◌}
use Rattle.std.proofs.lemmas.List.{length-set}
use Rattle.mail_replay.proofs.ExchangeLemmas.{all_nodes, all_replicas, one_more_node, one_more_replica}
use Rattle.mail_replay.proofs.exchanges.swap_nodes.Goals as goal

pub loop-place-preserved : goal.loop-place-preserved
loop-place-preserved c =
    let k = c.loop-place.place in
    let i = c.loop-place.invariant in
    record {
      replicas = one_more_replica k c.args.replicas.now c.loop-place.replicas c.args.nodes.now c.loop-place.nodes c.index-replicas-place.result c.index-nodes-place.result i.replicas i.nodes c.requires c.loop-place-test.true c.swap_node.new.replica c.swap_node.ensures.replica;
      nodes = one_more_node k c.args.replicas.now c.loop-place.replicas c.args.nodes.now c.loop-place.nodes c.index-replicas-place.result c.index-nodes-place.result i.replicas i.nodes c.requires c.loop-place-test.true c.swap_node.new.node c.swap_node.ensures.node;
      same_length = length-set c.loop-place.replicas k c.swap_node.new.replica ∙ i.same_length;
      same = length-set c.loop-place.nodes k c.swap_node.new.node ∙ i.same;
    }

pub returns-clause-replicas : goal.returns-clause-replicas
returns-clause-replicas c = c.loop-place.invariant.replicas ∙ all_replicas c.loop-place.place c.args.replicas.now c.args.nodes.now c.requires c.loop-place-test.false

pub returns-clause-nodes : goal.returns-clause-nodes
returns-clause-nodes c = c.loop-place.invariant.nodes ∙ all_nodes c.loop-place.place c.args.replicas.now c.args.nodes.now c.requires c.loop-place-test.false
