use Rattle.std.proofs.Common.{◌≡◌, ◌++◌, take}
use Rattle.mail_replay.proofs.script_state.IssuedOps.add.Given as goal

abbrev pub invariant-loop-op : goal.invariant-loop-op
invariant-loop-op l = l.self-inside.ops.items ≡ l.fn.self ++ take l.op-index l.ops
