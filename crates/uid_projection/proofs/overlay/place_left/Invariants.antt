use Rattle.std.proofs.Common.{take}
use Rattle.merge_laws.specs.Orders.{IsIn}
use Rattle.imap_types.specs.Unions.{version_ids}
use Rattle.uid_projection.specs.TagChanges.{IsUnchanged, IsPlaced, tag_data_of}
use Rattle.uid_projection.proofs.overlay.place_left.Given as goal

abbrev pub invariant-loop-version : goal.invariant-loop-version
invariant-loop-version l =
    IsPlaced (tag_data_of l.messages) l.origin (λ i. IsUnchanged l.messages l.origin i × IsIn i (version_ids (take l.version-index l.stored))) l.initial.versions.items l.versions.items
