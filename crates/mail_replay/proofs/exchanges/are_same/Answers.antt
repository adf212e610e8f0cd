use Rattle.std.proofs.Common.{refl}
use Rattle.mail_replay.proofs.exchanges.are_same.Goals as goal

pub returns-in-Same : goal.returns-in-Same
returns-in-Same c = (λ t. c.agree.ensures.exact.0 c.in-Same.is, λ h. refl)
