use Rattle.std.proofs.Common.{◌≡◌, drop}
use Rattle.std.specs.List.{list_any}
use Rattle.crdt_ops.specs.declared.op.Op.{Op}
use Rattle.uid_projection.specs.Incarnations.{deletes_folder}
use Rattle.uid_projection.proofs.numbers_after.is_deleted.Given as goal

abbrev pub invariant-loop-op : goal.invariant-loop-op
invariant-loop-op l = list_any (λ (o : Op). deletes_folder l.folder o.kind) (drop l.op-index l.ops) ≡ list_any (λ (o : Op). deletes_folder l.folder o.kind) l.ops
