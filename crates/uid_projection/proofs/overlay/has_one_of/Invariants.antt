use Rattle.std.proofs.Common.{◌≡◌, false, take}
use Rattle.std.specs.List.{list_any}
use Rattle.uid_projection.specs.TagChanges.{tag_data_of, is_version}
use Rattle.uid_projection.proofs.overlay.has_one_of.Given as goal

abbrev pub invariant-loop-version : goal.invariant-loop-version
invariant-loop-version l = list_any (λ version. is_version (tag_data_of l.messages) l.origin version.id) (take l.version-index l.versions) ≡ false
