use Rattle.std.proofs.Common.{take}
use Rattle.link_connection.specs.Sent.{IsRaisedBy}
use Rattle.link_connection.proofs.link_writer.raised_by.Given as goal

abbrev pub invariant-loop-op : goal.invariant-loop-op
invariant-loop-op l = IsRaisedBy l.covered (take l.op-index l.ops) l.raised
