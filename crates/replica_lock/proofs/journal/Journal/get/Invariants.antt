use Rattle.std.proofs.Common.{◌≡◌, ◌++◌}
use Rattle.std.specs.List.{slice_get}
use Rattle.std.specs.VecDeque.Iter.{deque_iter_rest}
use Rattle.replica_lock.specs.JournalState.{entries_of}
use Rattle.replica_lock.proofs.journal.Journal.get.Given as goal

abbrev pub invariant-loop-block : goal.invariant-loop-block
invariant-loop-block l =
    slice_get l.self.items l.index ≡ slice_get (entries_of (deque_iter_rest l.block-iterator) ++ l.self-inside.newest.entries.items) l.rest
