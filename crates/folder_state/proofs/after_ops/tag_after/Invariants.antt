use Rattle.std.proofs.Common.{◌≡◌, take}
use Rattle.folder_state.specs.Contents.{Contents}
use Rattle.folder_state.specs.AfterOps.{contents_after}
use Rattle.folder_state.proofs.after_ops.tag_after.Given as goal

abbrev pub invariant-loop-op : goal.invariant-loop-op
invariant-loop-op l = (c : Contents) → c.tags l.folder l.id ≡ l.fn.now → l.present ≡ (contents_after c (take l.op-index l.ops)).tags l.folder l.id
