use Rattle.mail_audit.specs.DumpLines.{HasReceivedOnly}
use Rattle.mail_audit.proofs.expected_lines.apply_ripe.Given as goal

abbrev pub invariant-loop-op : goal.invariant-loop-op
invariant-loop-op l = HasReceivedOnly l.ops l.inbox.received
