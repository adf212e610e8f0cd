use Rattle.mail_audit.proofs.DecisionLemmas.{explained}
use Rattle.mail_audit.proofs.laws.explained_if_it_passes.Goals as goal

pub returns : goal.returns
returns g c = explained c
