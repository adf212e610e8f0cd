use Rattle.std.proofs.Common.{◌≡◌, true, false, leb, ◌-◌, ◌<◌, ◌≤◌, length, get_or}
use Rattle.modseq_index.specs.declared.index.ModSeqEntry.{ModSeqEntry}
use Rattle.modseq_index.proofs.index.first_above.Given as goal

abbrev pub invariant-loop-low : goal.invariant-loop-low
invariant-loop-low l =
    record { order : l.low ≤ l.high; within : l.high ≤ length l.list; pass : (d : ModSeqEntry) → 0 < l.low → leb (get_or l.list (l.low - 1) d).modseq l.modseq ≡ true; fail : (d : ModSeqEntry) → l.high < length l.list → leb (get_or l.list l.high d).modseq l.modseq ≡ false }

abbrev pub decreases-loop-low : goal.decreases-loop-low
decreases-loop-low l = l.high - l.low
