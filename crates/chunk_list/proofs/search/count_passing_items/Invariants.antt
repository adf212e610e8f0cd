use Rattle.std.proofs.Common.{◌≡◌, ℕ, Bool, true, false, ◌+◌, ◌-◌, ◌<◌, ◌≤◌, length, get_or}
use Rattle.chunk_list.specs.Searches.{Computes}
use Rattle.chunk_list.proofs.search.count_passing_items.Given as goal

abbrev pub invariant-loop-low : goal.invariant-loop-low
invariant-loop-low g l =
    record { order : l.low ≤ l.high; within : l.high ≤ length l.items; pass : (p : ℕ → _ → Bool) (d : _) → Computes g.P.Fn p l.pred → 0 < l.low → p (l.from + (l.low - 1)) (get_or l.items (l.low - 1) d) ≡ true; fail : (p : ℕ → _ → Bool) (d : _) → Computes g.P.Fn p l.pred → l.high < length l.items → p (l.from + l.high) (get_or l.items l.high d) ≡ false }

abbrev pub decreases-loop-low : goal.decreases-loop-low
decreases-loop-low g l = l.high - l.low
