use Rattle.std.proofs.Common.{◌≡◌, ◌++◌, map, take}
use Rattle.op_log.specs.Entries.{AreLawful}
use Rattle.op_log.specs.Entries.{lines_of}
use Rattle.durable_log.specs.Logs.{entry_of_op}
use Rattle.durable_log.proofs.lines.push_ops.Given as goal

abbrev pub invariant-loop-op : goal.invariant-loop-op
invariant-loop-op l = record {
  lines : l.log.items ≡ l.initial.log.items ++ lines_of (map entry_of_op (take l.op-index l.ops));
  lawful : AreLawful (map entry_of_op (take l.op-index l.ops));
}
