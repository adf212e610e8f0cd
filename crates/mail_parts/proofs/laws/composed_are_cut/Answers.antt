use Rattle.mail_parts.proofs.CompositionLemmas.{composed_is_cut}
use Rattle.mail_parts.proofs.laws.composed_are_cut.Goals as goal

pub returns : goal.returns
returns c = composed_is_cut
