use Rattle.std.proofs.Common.{◌≤◌, ℕ, List, length}
use Rattle.op_log.specs.Readers.{HasReadLines}
use Rattle.op_log.proofs.lines_read.LinesRead.read_lines.Given as goal

abbrev pub invariant-loop-text : goal.invariant-loop-text
invariant-loop-text l = record {
  way : (replica : ℕ) (log : List ℕ) → HasReadLines replica log l.octets l.fn.self → HasReadLines replica log l.rest l.self;
  grows : (replica : ℕ) (log : List ℕ) → HasReadLines replica log l.octets l.fn.self → l.fn.self.committed.octets ≤ l.self.committed.octets;
}

abbrev pub decreases-loop-text : goal.decreases-loop-text
decreases-loop-text l = length l.rest
