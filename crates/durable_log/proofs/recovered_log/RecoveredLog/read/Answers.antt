use Rattle.std.proofs.Common.{refl}
use Rattle.durable_log.proofs.CrashLemmas.{crash_causal, crash_read}
use Rattle.durable_log.proofs.recovered_log.RecoveredLog.read.Goals as goal

pub returns-clause-crash : goal.returns-clause-crash
returns-clause-crash g c = λ synced unsynced known crash.
    let state = g.D.LogDevice.state in
    let before = state c.args.device in
    crash_read c.args.replica synced unsynced before.contents crash state (λ ops. ops.items) before c.read_log.result refl (c.read_log.ensures.recovered known) c.read_log.ensures.unchanged (c.read_log.ensures.fault known)

pub returns-clause-causal : goal.returns-clause-causal
returns-clause-causal g c = λ synced unsynced known crash causal.
    let state = g.D.LogDevice.state in
    let before = state c.args.device in
    crash_causal c.args.replica synced unsynced before.contents crash state (λ ops. ops.items) before c.read_log.result refl (c.read_log.ensures.recovered known) c.read_log.ensures.unchanged causal
