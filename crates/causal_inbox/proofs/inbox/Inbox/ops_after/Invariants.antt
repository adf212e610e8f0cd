use Rattle.std.proofs.Common.{◌≡◌, ◌≤◌, ◌++◌, ◌-◌, take}
use Rattle.causal_inbox.specs.Inbox.{uncovered_ops}
use Rattle.causal_inbox.proofs.inbox.Inbox.ops_after.Given as goal

abbrev pub invariant-loop : goal.invariant-loop
invariant-loop g l = record {
  count : l.counter ≤ l.limit;
  rest : l.copies.items ++ take (l.limit - l.counter) (uncovered_ops g.R.Op.Caused.id l.covered (take l.within l.self.received.applied)) ≡ take l.limit (uncovered_ops g.R.Op.Caused.id l.clock (take l.within l.self.received.applied));
}
