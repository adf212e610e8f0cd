use Rattle.std.proofs.Common.{◌≡◌, ◌++◌}
use Rattle.mailbox_rows.specs.ChangedEntries.{modseq_entries_of}
use Rattle.mailbox_rows.proofs.entry_table.modseq_entries_of.Given as goal

abbrev pub invariant-loop-entry : goal.invariant-loop-entry
invariant-loop-entry l = l.list.items ++ modseq_entries_of l.entry-iterator ≡ modseq_entries_of l.entries.items
