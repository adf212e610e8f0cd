use Rattle.std.proofs.Common.{◌≡◌, ◌≤◌, drop}
use Rattle.replica_lock.proofs.journal.Block.forget.Given as goal

abbrev pub invariant-loop : goal.invariant-loop
invariant-loop l = record {
  items : l.self.entries.items ≡ drop l.counter l.fn.self.entries.items;
  room : l.fn.self.entries.room ≤ l.self.entries.room;
}
