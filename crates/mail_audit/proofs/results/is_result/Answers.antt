use Rattle.mail_audit.proofs.ReadingLemmas.{no_result, result_if}
use Rattle.mail_audit.proofs.results.is_result.Goals as goal

pub returns-in-Some : goal.returns-in-Some
returns-in-Some c = result_if c.args.line.now c.in-Some.outcome c.is_outcome_text.result c.in-Some.ensures.read c.in-Some.ensures.range c.is_outcome_text.ensures

pub returns-in-None : goal.returns-in-None
returns-in-None c = no_result c.args.line.now c.in-None.ensures.read
