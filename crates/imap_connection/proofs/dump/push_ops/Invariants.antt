use Rattle.std.proofs.Common.{◌≡◌, ◌++◌, take}
use Rattle.std.specs.List.{flat_map}
use Rattle.imap_connection.specs.Dumps.{op_lines_by}
use Rattle.imap_connection.proofs.dump.push_ops.Given as goal

abbrev pub invariant-loop-replica : goal.invariant-loop-replica
invariant-loop-replica l = l.text.items ≡ l.fn.text.items ++ flat_map (op_lines_by l.ops) (take l.replica-index l.replicas)
