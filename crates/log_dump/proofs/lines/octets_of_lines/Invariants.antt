use Rattle.std.proofs.Common.{◌≡◌, ◌≤◌, ◌++◌, ℕ, List, length}
use Rattle.op_log.specs.Lines.{AreTexts, log_of}
use Rattle.log_dump.proofs.LineCountLemmas.{AreLinesLeft}
use Rattle.log_dump.proofs.lines.octets_of_lines.Given as goal

abbrev pub invariant-loop-line : goal.invariant-loop-line
invariant-loop-line l = record {
  within : length l.rest ≤ length l.log;
  left : (texts : List (List ℕ)) (after : List ℕ) → AreTexts texts → l.log ≡ log_of texts ++ after → l.count ≡ length texts → AreLinesLeft texts after l.rest l._line;
}
