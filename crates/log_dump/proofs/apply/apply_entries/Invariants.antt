use Rattle.std.proofs.Common.{take}
use Rattle.log_dump.proofs.EntryOrderLemmas.{AreApplied}
use Rattle.log_dump.proofs.apply.apply_entries.Given as goal

abbrev pub invariant-loop-place : goal.invariant-loop-place
invariant-loop-place l = AreApplied l.replica (take l.place l.entries) l.node.state
