use Rattle.uid_projection.proofs.BoundLemmas.{bounds}
use Rattle.uid_projection.proofs.bounds.numbers_have_bounds.Goals as goal

pub returns : goal.returns
returns c = bounds
