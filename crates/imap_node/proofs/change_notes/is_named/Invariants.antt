use Rattle.std.proofs.Common.{◌≡◌, drop}
use Rattle.imap_node.specs.SessionFeeds.{is_named}
use Rattle.imap_node.proofs.change_notes.is_named.Given as goal

abbrev pub invariant-loop-folder : goal.invariant-loop-folder
invariant-loop-folder l = is_named (drop l.folder-index l.folders) l.name ≡ is_named l.folders l.name
