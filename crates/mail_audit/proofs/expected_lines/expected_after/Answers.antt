use Rattle.mail_audit.proofs.AppliedLemmas.{expected_of}
use Rattle.mail_audit.proofs.expected_lines.expected_after.Goals as goal

pub returns : goal.returns
returns c = expected_of c.one_set_means_one.ensures c.args.ops.now c.apply_all.new.inbox.received c.clock.result.now c.lines_of.result c.requires c.apply_all.ensures c.clock.ensures c.in-None.ensures c.lines_of.ensures
