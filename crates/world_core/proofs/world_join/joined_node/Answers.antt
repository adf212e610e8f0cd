use Rattle.std.proofs.Common.{◌≡◌, List, subst}
use Rattle.std.specs.Prelude.{MatchResult}
use Rattle.crdt_ops.specs.declared.op.Op.{Op}
use Rattle.imap_node.specs.Nodes.{joined_node}
use Rattle.world_core.specs.Joins.{LacksNumbers}
use Rattle.world_core.specs.declared.world_join.JoinRefusal.TheVariants.{Exhausted as UsedUp}
use Rattle.world_core.proofs.world_join.joined_node.Goals as goal

pub returns : goal.returns
returns c =
    subst (λ (ops : List Op). MatchResult c.node_with_ops.result (λ node. (node.state ≡ joined_node c.args.name ops) × (¬ LacksNumbers c.args.name ops)) (λ why. why ≡ UsedUp → LacksNumbers c.args.name ops)) c.op_list.ensures.applied c.node_with_ops.ensures
