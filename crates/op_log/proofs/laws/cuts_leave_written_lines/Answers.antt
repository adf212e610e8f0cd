use Rattle.op_log.proofs.CrashLemmas.{begins_with_written_lines}
use Rattle.op_log.proofs.UndamagedLemmas.{cut_has_only_written_lines}
use Rattle.op_log.proofs.laws.cuts_leave_written_lines.Goals as goal

pub returns : goal.returns
returns c = λ unsynced count before a b. (begins_with_written_lines unsynced count before a b, cut_has_only_written_lines unsynced count before a b)
