use Rattle.mail_audit.proofs.ResultLemmas.{replica_in_range}
use Rattle.mail_audit.proofs.results.replica.Goals as goal

pub returns-clause-range : goal.returns-clause-range
returns-clause-range c = replica_in_range c.args.text.now c.replica.result c.replica.ensures
