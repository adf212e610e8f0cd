use Rattle.std.proofs.Common.{◌≡◌, take}
use Rattle.std.specs.List.{list_any}
use Rattle.tags_clocks.specs.declared.id.OpId.{OpId}
use Rattle.crdt_ops.specs.SortedSets.{same_id}
use Rattle.folder_state.specs.Contents.{Contents, origin_in}
use Rattle.uid_projection.specs.FolderAhead.{IsAhead, folder_of}
use Rattle.uid_projection.specs.EntryMoves.{loses}
use Rattle.uid_projection.proofs.chart_ahead.lost_origins.Given as goal

abbrev pub invariant-loop-id : goal.invariant-loop-id
invariant-loop-id l = (c : Contents) → IsAhead c l.ahead → (g : OpId) → list_any (same_id g) l.lost.items ≡ loses (origin_in c (folder_of l.ahead)) (take l.id-index l.removed) g
