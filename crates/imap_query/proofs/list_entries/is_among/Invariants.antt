use Rattle.std.proofs.Common.{◌≡◌, drop}
use Rattle.imap_query.specs.Patterns.{is_among}
use Rattle.imap_query.proofs.list_entries.is_among.Given as goal

abbrev pub invariant-loop-folder : goal.invariant-loop-folder
invariant-loop-folder l = is_among (drop l.folder-index l.folders) l.name ≡ is_among l.folders l.name
