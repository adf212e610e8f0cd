use Rattle.std.proofs.Common.{◌≡◌, false, take}
use Rattle.std.specs.List.{list_any}
use Rattle.std.specs.Option.{option_copied}
use Rattle.folder_state.specs.FolderTables.{ids_in}
use Rattle.folder_state.specs.AfterOps.{contents_of_folder, has_tag_after}
use Rattle.folder_state.proofs.after_ops.any_stored_left.Given as goal

abbrev pub invariant-loop-place : goal.invariant-loop-place
invariant-loop-place l = list_any (λ i. has_tag_after (contents_of_folder (option_copied l.table)) l.ops l.folder i) (take l.place (ids_in (option_copied l.table))) ≡ false
