use Rattle.mail_fields.proofs.WrittenLemmas.{written_again}
use Rattle.mail_fields.proofs.laws.written_types_are_read.Goals as goal

pub returns : goal.returns
returns c = written_again
