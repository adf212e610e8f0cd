use Rattle.imap_node.proofs.PlanLemmas.{intent_can_issue}
use Rattle.imap_node.proofs.plan.intent_within_numbers.Goals as goal

pub returns-clause-can : goal.returns-clause-can
returns-clause-can c =
    intent_can_issue c.args.replica.now.start c.args.replica.now.applied (record { sound = c.op_list-list.ensures.sound; causal = c.op_list-list.ensures.lawful.causal })
    c.args.stamp.now c.args.session.now.state c.args.input.now c.input_intent.result c.input_intent.ensures.gives
