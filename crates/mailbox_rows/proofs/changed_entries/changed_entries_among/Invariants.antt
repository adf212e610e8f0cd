use Rattle.std.proofs.Common.{◌≡◌, ◌++◌, drop}
use Rattle.mailbox_rows.proofs.ChangedEntryLemmas.{search_results}
use Rattle.mailbox_rows.proofs.changed_entries.changed_entries_among.Given as goal

abbrev pub invariant-loop-uid : goal.invariant-loop-uid
invariant-loop-uid l = l.changed.items ++ search_results l.modseq l.low (drop l.uid-index l.uids) l.list.items ≡ search_results l.modseq 0 l.uids l.list.items
