use Rattle.op_log.proofs.UndamagedLemmas.{undamaged}
use Rattle.op_log.proofs.laws.crash_states_are_undamaged.Goals as goal

pub returns : goal.returns
returns c = undamaged
