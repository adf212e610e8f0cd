use Rattle.std.proofs.Common.{◌≡◌, List, MatchResult, length, ap, subst, ◌∙◌}
use Rattle.imap_node.specs.Nodes.{NodeWithRoom}
use Rattle.mail_replay.proofs.ExchangeLemmas.{one_each, with_others}
use Rattle.mail_replay.specs.Exchanges.{nodes_in, with_nodes}
use Rattle.mail_replay.specs.declared.script_state.ScriptReplica.{ScriptReplica}
use Rattle.world_core.specs.Replicas.{all_without_room}
use Rattle.world_core.specs.Settlement.{AllTakeSomeOf, AreAgreed, AreSettled, AreUnsettled, IsReceivedBy}
use Rattle.mail_replay.proofs.exchanges.exchange_with.Goals as goal

pub returns : goal.returns
returns c =
    let new = c.settle-answer.new.nodes in
    let swapped : c.swap_nodes.new.nodes ≡ nodes_in c.args.replicas.now = c.swap_nodes.ensures.nodes in
    let fits : length new ≡ length c.args.replicas.now = c.settle-answer.auto.nodes ∙ ap length swapped ∙ one_each c.args.replicas.now in (
      new,
      c.settle-answer.result,
      subst (λ (ns : List NodeWithRoom). MatchResult c.settle-answer.result (λ done. AreAgreed (all_without_room ns) × AreSettled (all_without_room ns) (all_without_room new)) (λ why. AreUnsettled (all_without_room ns) why (all_without_room new))) swapped c.settle-answer.ensures.settles,
      subst (λ (ns : List NodeWithRoom). AllTakeSomeOf (IsReceivedBy (all_without_room ns)) (all_without_room ns) (all_without_room new)) swapped c.settle-answer.ensures.takes,
      c.settle_line.ensures,
      c.swap_nodes-2.ensures.replicas ∙ ap (λ (rs : List ScriptReplica). with_nodes rs new) c.swap_nodes.ensures.replicas ∙ with_others c.args.replicas.now c.args.nodes.now new c.requires fits,
    )
