use Rattle.std.proofs.Common.{◌≡◌, false, take}
use Rattle.std.specs.List.{list_any}
use Rattle.std.specs.Option.{option_copied}
use Rattle.folder_state.specs.AfterOps.{contents_after, contents_of_folder, is_version}
use Rattle.folder_state.proofs.after_ops.any_left.Given as goal

abbrev pub invariant-loop-version : goal.invariant-loop-version
invariant-loop-version l = list_any (λ v. is_version (contents_after (contents_of_folder (option_copied l.table)) l.ops) l.folder l.origin v.id) (take l.version-index l.versions) ≡ false
