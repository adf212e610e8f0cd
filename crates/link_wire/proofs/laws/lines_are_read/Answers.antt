use Rattle.link_wire.proofs.LineCutLemmas.{line_found}
use Rattle.link_wire.proofs.laws.lines_are_read.Goals as goal

pub returns : goal.returns
returns c = line_found
