use Rattle.log_dump.proofs.CrashedDumpLemmas.{crash_dump}
use Rattle.log_dump.proofs.dump.dump_of_log.Goals as goal

pub returns-clause-crash : goal.returns-clause-crash
returns-clause-crash c = λ replica synced unsynced crash in_turn. crash_dump replica synced unsynced c.args.log.now crash in_turn (λ text. text.items) c.dump_or_fault.result c.dump_or_fault.ensures
