use Rattle.std.proofs.Common.{◌≡◌, ◌∙◌, subst}
use Rattle.std.specs.Prelude.{MatchResult}
use Rattle.imap_node.specs.Nodes.{NodeState}
use Rattle.world_core.specs.Restarts.{LacksOwnNumbers, restarted_node}
use Rattle.world_core.specs.declared.world_join.JoinRefusal.TheVariants.{Exhausted as UsedUp}
use Rattle.world_core.proofs.world_restart.restarted_node.Goals as goal

pub returns : goal.returns
returns c =
    let from = c.args.from.now.state in
    let start = c.start.ensures.start ∙ c.replica.ensures.start in
    let given : NodeState = record { start = c.start.result; applied = c.op_list.result.now; held = from.held; sessions = from.sessions } in
    let same : given ≡ from =
    (λ i. record { start = start i; applied = c.op_list.ensures.applied i; held = from.held; sessions = from.sessions }) in
    subst (λ (n : NodeState). MatchResult c.node_with_ops.result (λ node. (node.state ≡ restarted_node n) × (¬ LacksOwnNumbers n)) (λ why. why ≡ UsedUp → LacksOwnNumbers n)) same c.node_with_ops.ensures
