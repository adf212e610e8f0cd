use Rattle.std.proofs.Common.{◌≡◌, take}
use Rattle.folder_state.specs.Contents.{Contents, origin_in}
use Rattle.folder_state.specs.AfterOps.{contents_after}
use Rattle.folder_state.proofs.after_ops.origin_after.Given as goal

abbrev pub invariant-loop-op : goal.invariant-loop-op
invariant-loop-op l = (c : Contents) → origin_in c l.folder l.id ≡ l.fn.now → l.origin ≡ origin_in (contents_after c (take l.op-index l.ops)) l.folder l.id
