use Rattle.std.proofs.Common.{◌≡◌, ◌≤◌, ◌+◌, List, ◌++◌, take}
use Rattle.crdt_ops.specs.declared.op.Op.{Op}
use Rattle.folder_state.specs.Contents.{IsMadeBy}
use Rattle.folder_state.specs.Tables.{contents_of}
use Rattle.uid_projection.specs.Applied.{IsApplied}
use Rattle.uid_projection.specs.UidsAndModSeqs.{highest_modseq_of}
use Rattle.uid_projection.proofs.numbers_after.highest_after.Given as goal

abbrev pub invariant-loop-at : goal.invariant-loop-at
invariant-loop-at l = record {
  so_far : (list : List Op) → IsApplied (list ++ l.ops) → IsMadeBy (contents_of l.value) list → l.now ≡ highest_modseq_of l.folder list → l.highest ≡ highest_modseq_of l.folder (list ++ take l.at l.ops);
  bound : l.highest ≤ 18446744073709551615 + l.at;
}
