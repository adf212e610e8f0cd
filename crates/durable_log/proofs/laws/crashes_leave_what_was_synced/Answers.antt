use Rattle.durable_log.proofs.CrashLemmas.{crashed_log}
use Rattle.durable_log.proofs.laws.crashes_leave_what_was_synced.Goals as goal

pub returns : goal.returns
returns g c = crashed_log g.D.LogDevice.state
