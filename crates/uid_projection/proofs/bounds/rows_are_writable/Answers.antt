use Rattle.uid_projection.proofs.BoundLemmas.{rows_written}
use Rattle.uid_projection.proofs.bounds.rows_are_writable.Goals as goal

pub returns : goal.returns
returns c = rows_written
