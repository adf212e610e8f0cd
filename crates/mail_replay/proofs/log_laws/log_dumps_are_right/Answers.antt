use Rattle.std.proofs.Common.{ℕ, List}
use Rattle.log_dump.specs.LogDumps.{IsLogDump}
use Rattle.log_dump.proofs.EntryOrderLemmas.{causal_ops}
use Rattle.log_dump.proofs.LogDumpLemmas.{dumped_name, dumped_ops}
use Rattle.mail_audit.specs.Dumps.{IsRightDump}
use Rattle.op_log.specs.Entries.{ops_of}
use Rattle.mail_replay.proofs.RightDumpLemmas.{right_dump, right_with_dump}
use Rattle.mail_replay.proofs.log_laws.log_dumps_are_right.Goals as goal

log_dump_is_right : (log text : List ℕ) → IsLogDump log text → IsRightDump text
log_dump_is_right log text h =
    let sound = dumped_ops log text h in
    right_dump h.replica (ops_of h.entries) text (dumped_name log text h) (λ op k. (sound op k).1) (λ op k. (sound op k).0) (causal_ops h.replica h.entries h.in_turn) h.dump

pub returns : goal.returns
returns c = record {
  dumps = log_dump_is_right;
  lines = λ log text h front right. right_with_dump front text (log_dump_is_right log text h) right;
}
