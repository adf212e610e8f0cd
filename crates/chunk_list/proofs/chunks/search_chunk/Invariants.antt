use Rattle.std.proofs.Common.{◌-◌, ◌<◌, ◌≤◌, length, get_or}
use Rattle.chunk_list.specs.declared.chunks.Chunk.{Chunk}
use Rattle.chunk_list.proofs.chunks.search_chunk.Given as goal

abbrev pub invariant-loop-high : goal.invariant-loop-high
invariant-loop-high g l =
    record { order : l.low < l.high; within : l.high ≤ length l.chunks; early : (d : Chunk _) → (get_or l.chunks l.low d).start ≤ l.index; late : (d : Chunk _) → l.high < length l.chunks → l.index < (get_or l.chunks l.high d).start }

abbrev pub decreases-loop-high : goal.decreases-loop-high
decreases-loop-high g l = l.high - l.low
