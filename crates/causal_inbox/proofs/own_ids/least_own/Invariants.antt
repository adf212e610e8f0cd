use Rattle.std.proofs.Common.{take}
use Rattle.causal_inbox.specs.OwnIds.{IsLeastOwn}
use Rattle.causal_inbox.proofs.own_ids.least_own.Given as goal

abbrev pub invariant-loop-op : goal.invariant-loop-op
invariant-loop-op g l = IsLeastOwn g.O.Caused.id l.name (take l.op-index l.ops) l.least
