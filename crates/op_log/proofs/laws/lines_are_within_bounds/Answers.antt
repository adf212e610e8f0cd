use Rattle.op_log.proofs.LineBoundLemmas.{line_within}
use Rattle.op_log.proofs.laws.lines_are_within_bounds.Goals as goal

pub returns : goal.returns
returns c = λ op w. line_within op w
