use Rattle.mail_audit.proofs.ResultLemmas.{id_in_range}
use Rattle.mail_audit.proofs.results.id.Goals as goal

pub returns-clause-range : goal.returns-clause-range
returns-clause-range c = id_in_range c.args.text.now c.id.result c.id.ensures
