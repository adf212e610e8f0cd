use Rattle.std.proofs.Common.{◌≡◌, drop}
use Rattle.merge_laws.specs.Orders.{fold_of}
use Rattle.merge_laws.proofs.laws.replay.Given as goal

abbrev pub invariant-loop-op : goal.invariant-loop-op
invariant-loop-op g l =
    let it = g.R.Replicated in
    record {
      prepared : it.is_prepared l.value (drop l.op-index l.ops);
      folded : fold_of it.effect (it.meaning l.value) (drop l.op-index l.ops) ≡ fold_of it.effect (it.meaning l.fn.value) l.ops;
    }
