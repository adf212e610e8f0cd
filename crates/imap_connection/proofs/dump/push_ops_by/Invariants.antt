use Rattle.std.proofs.Common.{◌≡◌, ◌++◌, take}
use Rattle.std.specs.List.{flat_map}
use Rattle.imap_connection.specs.Dumps.{own_line}
use Rattle.imap_connection.proofs.dump.push_ops_by.Given as goal

abbrev pub invariant-loop-op : goal.invariant-loop-op
invariant-loop-op l = l.text.items ≡ l.fn.text.items ++ flat_map (own_line l.replica) (take l.op-index l.ops)
