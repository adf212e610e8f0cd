use Rattle.std.proofs.Common.{◌≡◌, take}
use Rattle.folder_state.specs.FolderTables.{folder_ids}
use Rattle.folder_state.proofs.folder.Folder.ids.Given as goal

abbrev pub invariant-loop-place : goal.invariant-loop-place
invariant-loop-place l = l.ids.items ≡ take l.place (folder_ids l.self)
