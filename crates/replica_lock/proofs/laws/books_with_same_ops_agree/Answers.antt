use Rattle.std.proofs.Common.{subst}
use Rattle.imap_node.specs.Deliveries.{IsOrderly}
use Rattle.imap_node.specs.Nodes.{NodeState}
use Rattle.merge_laws.proofs.Lists.{in_front}
use Rattle.replica_lock.proofs.laws.books_with_same_ops_agree.Goals as goal

pub returns : goal.returns
returns c = λ same.
    let one = c.args.one.now.node in
    let orderly : IsOrderly one = subst (λ (s : NodeState). IsOrderly s) c.node.ensures.node c.op_list-ops.ensures.orderly in
    c.one_set_means_one.ensures one.applied c.args.other.now.node.applied same (λ a b ha hb e. orderly.determined a b (in_front a one.applied one.held ha) (in_front b one.applied one.held hb) e)
