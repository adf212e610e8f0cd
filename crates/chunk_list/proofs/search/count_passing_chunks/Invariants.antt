use Rattle.std.proofs.Common.{◌≡◌, ℕ, Bool, true, false, ◌-◌, ◌<◌, ◌≤◌, length, get_or}
use Rattle.chunk_list.specs.Chunks.{first_of}
use Rattle.chunk_list.specs.Searches.{Computes}
use Rattle.chunk_list.specs.declared.chunks.Chunk.{Chunk}
use Rattle.chunk_list.proofs.search.count_passing_chunks.Given as goal

abbrev pub invariant-loop-low : goal.invariant-loop-low
invariant-loop-low g l =
    record { order : l.low ≤ l.high; within : l.high ≤ length l.chunks; pass : (p : ℕ → _ → Bool) (d : Chunk _) (e : _) → Computes g.P.Fn p l.pred → 0 < l.low → p (get_or l.chunks (l.low - 1) d).start (first_of (get_or l.chunks (l.low - 1) d) e) ≡ true; fail : (p : ℕ → _ → Bool) (d : Chunk _) (e : _) → Computes g.P.Fn p l.pred → l.high < length l.chunks → p (get_or l.chunks l.high d).start (first_of (get_or l.chunks l.high d) e) ≡ false }

abbrev pub decreases-loop-low : goal.decreases-loop-low
decreases-loop-low g l = l.high - l.low
