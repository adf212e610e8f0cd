use Rattle.std.proofs.Common.{◌≡◌, drop}
use Rattle.imap_node.specs.SessionFeeds.{notes_in}
use Rattle.imap_node.proofs.change_notes.notes_among.Given as goal

abbrev pub invariant-loop-folder : goal.invariant-loop-folder
invariant-loop-folder l = notes_in (drop l.folder-index l.folders) l.name ≡ notes_in l.folders l.name
