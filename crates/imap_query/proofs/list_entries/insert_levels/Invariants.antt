use Rattle.std.proofs.Common.{◌≡◌, drop}
use Rattle.imap_query.specs.Placing.{insert_all, shown_levels}
use Rattle.imap_query.proofs.list_entries.insert_levels.Given as goal

abbrev pub invariant-loop-folder : goal.invariant-loop-folder
invariant-loop-folder l = insert_all (shown_levels l.pattern l.folders (drop l.folder-index l.folders)) l.entries.items ≡ insert_all (shown_levels l.pattern l.folders l.folders) l.initial.entries.items
