use Rattle.std.proofs.Common.{◌≡◌, ◌≤◌, ◌+◌, List, ◌++◌, take}
use Rattle.crdt_ops.specs.declared.op.Op.{Op}
use Rattle.folder_state.specs.Contents.{IsMadeBy}
use Rattle.folder_state.specs.Tables.{contents_of}
use Rattle.uid_projection.specs.declared.first_numbers.Counters.{Counters}
use Rattle.uid_projection.specs.Applied.{IsApplied}
use Rattle.uid_projection.specs.UidsAndModSeqs.{first_uid, uidnext_of}
use Rattle.uid_projection.proofs.exhaustion.uid_after.Given as goal

abbrev pub invariant-loop-at : goal.invariant-loop-at
invariant-loop-at l = record {
  so_far : (start : Counters) (list : List Op) → IsApplied (list ++ l.ops) → IsMadeBy (contents_of l.value) list → l.first ≡ first_uid start l.folder → l.now ≡ uidnext_of start l.folder list → l.uid ≡ uidnext_of start l.folder (list ++ take l.at l.ops);
  bound : l.uid ≤ 4294967295 + l.at;
}
