use Rattle.std.proofs.Common.{◌≡◌, ◌++◌, take}
use Rattle.std.specs.List.{flat_map}
use Rattle.crdt_ops.specs.DumpLines.{folder_lines}
use Rattle.imap_connection.proofs.dump.push_folders.Given as goal

abbrev pub invariant-loop-folder : goal.invariant-loop-folder
invariant-loop-folder l = l.text.items ≡ l.fn.text.items ++ flat_map (folder_lines l.replica.applied) (take l.folder-index l.folder-items)
