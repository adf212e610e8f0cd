use Rattle.std.proofs.Common.{sym, subst}
use Rattle.world_core.specs.declared.event.Event.TheVariants as events
use Rattle.world_core.specs.declared.event.Outcome.{Outcome}
use Rattle.world_core.specs.Replicas.{nodes_by_name, all_without_room}
use Rattle.world_core.specs.Steps.{Steps}
use Rattle.world_core.proofs.JoinLemmas.{answers_step}
use Rattle.world_core.proofs.world_join.join_step.Goals as goal

pub returns : goal.returns
returns c =
    subst (λ (x : Outcome). Steps (nodes_by_name (all_without_room c.args.nodes.now.items)) (events.Join c.args.name c.args.from) x (nodes_by_name (all_without_room c.join-answer.new.nodes.items))) (sym c.outcome_of_join.ensures)
    (answers_step c.args.nodes.now.items c.join-answer.new.nodes.items c.args.name c.args.from c.join-answer.result c.join-answer.ensures.ok c.join-answer.ensures.why c.join-answer.ensures.err)
