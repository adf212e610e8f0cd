use Rattle.std.proofs.Common.{◌≡◌, false, take}
use Rattle.std.specs.List.{list_any}
use Rattle.std.specs.Option.{option_copied}
use Rattle.folder_state.specs.AfterOps.{contents_of_folder, has_tag_after}
use Rattle.folder_state.proofs.after_ops.any_added_left.Given as goal

abbrev pub invariant-loop-op : goal.invariant-loop-op
invariant-loop-op l = list_any (λ o. has_tag_after (contents_of_folder (option_copied l.table)) l.ops l.folder o.id) (take l.op-index l.ops) ≡ false
