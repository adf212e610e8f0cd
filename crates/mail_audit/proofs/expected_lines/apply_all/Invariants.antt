use Rattle.mail_audit.specs.DumpLines.{HasReceivedOnly}
use Rattle.mail_audit.proofs.expected_lines.apply_all.Given as goal

abbrev pub invariant-loop-round : goal.invariant-loop-round
invariant-loop-round l = HasReceivedOnly l.ops l.inbox.received
