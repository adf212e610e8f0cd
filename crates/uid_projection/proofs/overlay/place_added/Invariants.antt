use Rattle.std.proofs.Common.{take}
use Rattle.merge_laws.specs.Orders.{IsIn}
use Rattle.uid_projection.specs.TagChanges.{IsPlaced, IsAdded, tag_data_of}
use Rattle.uid_projection.proofs.overlay.place_added.Given as goal

abbrev pub invariant-loop-id : goal.invariant-loop-id
invariant-loop-id l =
    IsPlaced (tag_data_of l.messages) l.origin (λ i. IsAdded l.messages l.origin i × IsIn i (take l.id-index l.ids)) l.initial.versions.items l.versions.items
