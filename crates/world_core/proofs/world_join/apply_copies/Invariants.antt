use Rattle.std.proofs.Common.{◌≡◌, [], take}
use Rattle.uid_projection.specs.Exhaustion.{Exhausts}
use Rattle.world_core.proofs.world_join.apply_copies.Given as goal

abbrev pub invariant-loop-op : goal.invariant-loop-op
invariant-loop-op l = record {
  now : l.node.state ≡ record l.initial.node.state { applied = take l.op-index l.ops };
  not_exhausted : ¬ Exhausts l.initial.node.state.start [] (take l.op-index l.ops);
}
