use Rattle.mail_parts.proofs.CompositionLemmas.{single_is_text}
use Rattle.mail_parts.proofs.laws.single_is_text.Goals as goal

pub returns : goal.returns
returns c = single_is_text
