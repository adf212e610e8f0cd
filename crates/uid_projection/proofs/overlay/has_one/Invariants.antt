use Rattle.std.proofs.Common.{◌≡◌, false, take}
use Rattle.std.specs.List.{list_any}
use Rattle.uid_projection.specs.TagChanges.{tag_data_of, is_version}
use Rattle.uid_projection.proofs.overlay.has_one.Given as goal

abbrev pub invariant-loop-id : goal.invariant-loop-id
invariant-loop-id l = list_any (is_version (tag_data_of l.messages) l.origin) (take l.id-index l.ids) ≡ false
