use Rattle.std.proofs.Common.{◌≡◌, ◌++◌, take, drop}
use Rattle.imap_query.specs.Placing.{insert_entry}
use Rattle.imap_query.proofs.list_entries.place_of.Given as goal

abbrev pub invariant-loop-at : goal.invariant-loop-at
invariant-loop-at l = insert_entry l.entry l.entries ≡ take l.at l.entries ++ insert_entry l.entry (drop l.at l.entries)
