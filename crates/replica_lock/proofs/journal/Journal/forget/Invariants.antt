use Rattle.std.proofs.Common.{◌≡◌, ◌++◌, drop, length}
use Rattle.replica_lock.specs.JournalState.{entries_of}
use Rattle.replica_lock.proofs.journal.Journal.forget.Given as goal

abbrev pub invariant-loop-block : goal.invariant-loop-block
invariant-loop-block l = record {
  items : drop l.rest (entries_of l.self-inside.older.items ++ l.self-inside.newest.entries.items) ≡ drop l.count l.fn.self.items;
  room : l.self-inside.newest.entries.room ≡ l.fn.self.room;
}

abbrev pub decreases-loop-block : goal.decreases-loop-block
decreases-loop-block l = length l.self-inside.older.items
