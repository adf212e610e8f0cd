use Rattle.std.proofs.Common.{subst}
use Rattle.causal_inbox.specs.Inbox.{IsReceived}
use Rattle.mail_audit.proofs.AppliedLemmas.{received_only_grown}
use Rattle.mail_audit.proofs.expected_lines.apply_ripe.Goals as goal
use Rattle.mail_audit.proofs.expected_lines.apply_ripe.Goals.{then-is_next+in_ok-apply, else-is_next}

pub returns-in_err-apply : goal.returns-in_err-apply
returns-in_err-apply c = received_only_grown c.args.ops.now c.loop-op.inbox.received c.apply.new.inbox.received c.op-item.result c.loop-op.op-index c.loop-op-test.true c.op-item.is c.loop-op.invariant c.apply.ensures

pub loop-op-preserved : goal.loop-op-preserved
loop-op-preserved c = λ o r.
    elim c.if-is_next.branch [
      | then-is_next+in_ok-apply w ↦ received_only_grown c.args.ops.now c.loop-op.inbox.received w.apply.new.inbox.received c.op-item.result c.loop-op.op-index c.loop-op-test.true c.op-item.is c.loop-op.invariant w.apply.ensures o (subst (λ inbox. IsReceived inbox.received o) w.inbox-is r)
      | else-is_next w ↦ c.loop-op.invariant o (subst (λ inbox. IsReceived inbox.received o) w.inbox-is r)
    ]
