use Rattle.std.proofs.Common.{◌≡◌, None, take, if◌then◌else◌}
use Rattle.std.specs.List.{list_any}
use Rattle.tags_clocks.specs.declared.id.OpId.{OpId}
use Rattle.crdt_ops.specs.SortedSets.{same_id}
use Rattle.uid_projection.specs.TagChanges.{Grows, IsWhole, tag_data_of}
use Rattle.uid_projection.proofs.messages_ahead.MessagesAhead.take.Given as goal

abbrev pub invariant-loop-id : goal.invariant-loop-id
invariant-loop-id l =
    (l.self.stored ≡ l.initial.self.stored)
    × Grows l.initial.self.versions.entries l.self.versions.entries
    × (IsWhole l.initial.self → IsWhole l.self)
    × ((i : OpId) → tag_data_of l.self i ≡ (if list_any (same_id i) (take l.id-index l.ids) then None else tag_data_of l.initial.self i))
