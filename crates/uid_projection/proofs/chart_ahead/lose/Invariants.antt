use Rattle.std.proofs.Common.{◌≡◌, ◌≤◌, List, take}
use Rattle.std.specs.List.{list_any}
use Rattle.crdt_ops.specs.declared.op.Op.{Op}
use Rattle.crdt_ops.specs.SortedSets.{same_id}
use Rattle.folder_state.specs.Contents.{Contents, IsMadeBy}
use Rattle.uid_projection.specs.FolderAhead.{IsAhead, folder_of}
use Rattle.uid_projection.specs.UidsAndModSeqs.{has_version}
use Rattle.uid_projection.specs.EntryMoves.{AreApart, moved_entries}
use Rattle.uid_projection.proofs.chart_ahead.lose.Given as goal

abbrev pub invariant-loop-origin : goal.invariant-loop-origin
invariant-loop-origin l = record {
  latest : l.entries.latest ≤ l.modseq;
  entries :
      (list : List Op) (c : Contents)
      → IsAhead c l.ahead
      → IsMadeBy c list
      → AreApart l.fn.entries.entries
      → l.entries.entries ≡ moved_entries (λ g. list_any (same_id g) (take l.origin-index l.lost)) (λ g. has_version (folder_of l.ahead) g list) l.modseq l.fn.entries.entries;
}
