use Rattle.std.proofs.Common.{◌≡◌, [], take, drop}
use Rattle.imap_query.specs.Placing.{levels_from, insert_all, shown_among}
use Rattle.imap_query.proofs.list_entries.insert_levels_of.Given as goal

abbrev pub invariant-loop-at : goal.invariant-loop-at
invariant-loop-at l = insert_all (shown_among l.pattern l.folders (levels_from (take l.at l.folder) (drop l.at l.folder))) l.entries.items ≡ insert_all (shown_among l.pattern l.folders (levels_from [] l.folder)) l.initial.entries.items
