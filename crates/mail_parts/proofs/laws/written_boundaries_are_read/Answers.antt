use Rattle.mail_parts.proofs.BoundaryLemmas.{boundary_read}
use Rattle.mail_parts.proofs.laws.written_boundaries_are_read.Goals as goal

pub returns : goal.returns
returns c = boundary_read
