use Rattle.std.proofs.Common.{◌≡◌, take}
use Rattle.link_connection.specs.Sent.{ops_payload}
use Rattle.link_connection.proofs.link_writer.lines_of.Given as goal

abbrev pub invariant-loop-op : goal.invariant-loop-op
invariant-loop-op l = l.lines.items ≡ ops_payload (take l.op-index l.ops)
