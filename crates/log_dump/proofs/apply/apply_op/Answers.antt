use Rattle.std.proofs.Common.{MatchResult, subst}
use Rattle.crdt_ops.specs.declared.op.Op.{Op}
use Rattle.imap_node.specs.Deliveries.{Delivers, IsRefusedAt}
use Rattle.log_dump.proofs.RestorationLemmas.{applies_by_answer}
use Rattle.log_dump.proofs.apply.apply_op.Goals as goal

pub returns : goal.returns
returns c = λ nothing.
    let old = c.args.node.now.state in
    let new = c.deliver-answer.new.self.state in
    let answer = c.deliver-answer.result in
    applies_by_answer old c.args.op.now nothing answer new (subst (λ (o : Op). MatchResult answer (λ d. Delivers old o d.arrival new) (λ e. IsRefusedAt old o e)) c.in-Ok.ensures c.deliver-answer.ensures.answer)
    c.result_of_delivery.result c.result_of_delivery.ensures
