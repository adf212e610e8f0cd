use Rattle.std.proofs.Common.{◌≡◌, ◌+◌, ◌≤◌, List, length, take}
use Rattle.crdt_ops.specs.declared.op.Op.{Op}
use Rattle.folder_state.specs.Contents.{IsMadeBy}
use Rattle.folder_state.specs.Tables.{contents_of}
use Rattle.uid_projection.specs.UidsAndModSeqs.{has_version}
use Rattle.uid_projection.specs.EntryMoves.{AreApart, loses, moved_entries}
use Rattle.uid_projection.specs.ChartTable.{origin_at}
use Rattle.uid_projection.proofs.chart.lose.Given as goal

abbrev pub invariant-loop-id : goal.invariant-loop-id
invariant-loop-id l = record {
  entries :
      (list : List Op)
      → IsMadeBy (contents_of l.value) list
      → AreApart l.fn.entries.entries
      → l.entries.entries ≡ moved_entries (loses (origin_at l.versions.entries) (take l.id-index l.removed)) (λ g. has_version l.folder g list) l.modseq l.fn.entries.entries;
  within : l.id-index ≤ length l.removed;
  latest : l.entries.latest ≤ l.modseq;
  room : l.fn.entries.room ≤ l.entries.room;
  modseq_room : l.fn.entries.modseq_room ≤ l.entries.modseq_room + l.id-index;
}
