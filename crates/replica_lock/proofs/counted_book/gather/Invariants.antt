use Rattle.std.proofs.Common.{◌≡◌, ◌+◌, vec_len}
use Rattle.replica_lock.specs.Passes.{calls_of, parts_of}
use Rattle.replica_lock.proofs.counted_book.gather.Given as goal

abbrev pub invariant-loop-pass : goal.invariant-loop-pass
invariant-loop-pass g l =
    (calls_of l.passes.items + l.all.calls ≡ calls_of l.fn.passes.items)
    × (parts_of l.passes.items + l.all.parts ≡ parts_of l.fn.passes.items)
    × (l.calls.total ≡ l.fn.calls.total)

abbrev pub decreases-loop-pass : goal.decreases-loop-pass
decreases-loop-pass g l = vec_len l.passes
