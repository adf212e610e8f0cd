use Rattle.op_log.proofs.EntryLemmas.{crash_causal, crash_read}
use Rattle.op_log.proofs.recovery.recover.Goals as goal

pub returns-clause-crash : goal.returns-clause-crash
returns-clause-crash c =
    λ synced unsynced h k ends leaves. crash_read c.args.log.now synced unsynced h k leaves c.read_entries.result c.read_entries.ensures.read c.read_entries.ensures.fault ends

pub returns-clause-causal : goal.returns-clause-causal
returns-clause-causal c =
    λ synced unsynced h k ends leaves causal. crash_causal c.args.log.now synced unsynced h k leaves c.read_entries.result c.read_entries.ensures.read ends causal
