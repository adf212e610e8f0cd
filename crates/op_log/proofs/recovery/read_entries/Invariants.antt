use Rattle.std.proofs.Common.{length}
use Rattle.op_log.proofs.RecoveryLemmas.{AreCommittedSoFar, IsReadSoFar}
use Rattle.op_log.proofs.recovery.read_entries.Given as goal

abbrev pub invariant-loop-text : goal.invariant-loop-text
invariant-loop-text l = record {
  way : IsReadSoFar l.log l.rest l.entries.items;
  kept : AreCommittedSoFar l.entries.items l.count l.octets;
}

abbrev pub decreases-loop-text : goal.decreases-loop-text
decreases-loop-text l = length l.rest
