use Rattle.mail_parts.proofs.OneCuttingLemmas.{one_cutting}
use Rattle.mail_parts.proofs.laws.one_cutting.Goals as goal

pub returns : goal.returns
returns c = one_cutting
