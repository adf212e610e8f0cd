use Rattle.durable_log.proofs.CrashLemmas.{crashed_write}
use Rattle.durable_log.proofs.laws.crashes_of_writes_leave_what_was_synced.Goals as goal

pub returns : goal.returns
returns g c = crashed_write g.D.LogDevice.state
