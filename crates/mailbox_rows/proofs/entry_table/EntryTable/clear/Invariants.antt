use Rattle.std.proofs.Common.{◌≡◌, ◌+◌, ◌≤◌, length}
use Rattle.mailbox_rows.proofs.entry_table.EntryTable.clear.Given as goal

abbrev pub invariant-loop-taken : goal.invariant-loop-taken
invariant-loop-taken l = record {
  total : length l.self.entries + l.taken ≡ l.count;
  room : l.fn.self.room ≤ l.self.room;
  modseq_room : l.fn.self.modseq_room ≤ l.self.modseq_room;
}
