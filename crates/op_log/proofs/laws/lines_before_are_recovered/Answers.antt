use Rattle.op_log.proofs.LineLemmas.{recovered_lines}
use Rattle.op_log.proofs.laws.lines_before_are_recovered.Goals as goal

pub returns : goal.returns
returns c = recovered_lines
