use Rattle.world_core.specs.Settlement.{IsReceivedAt}
use Rattle.world_core.proofs.TakeLemmas.{drains_takes, not_taken_weaker, short_same, takes_same}
use Rattle.world_core.proofs.settlement.release.Goals as goal

pub returns-then-drain-clause-short : goal.returns-then-drain-clause-short
returns-then-drain-clause-short c =
    short_same (IsReceivedAt c.args.node.now.state) c.drain.new.self.state c.stall_fault.new.node.state c.stall_fault.result
    (not_taken_weaker (IsReceivedAt c.drain.new.self.state) (IsReceivedAt c.args.node.now.state) c.drain.new.self.state c.stall_fault.result c.stall_fault.ensures.short
    (drains_takes c.args.node.now.state c.drain.new.self.state c.drain.result.applied c.drain.ensures.released).received)
    c.stall_fault.ensures.same

pub returns-then-drain-clause-takes : goal.returns-then-drain-clause-takes
returns-then-drain-clause-takes c =
    takes_same (IsReceivedAt c.args.node.now.state) c.args.node.now.state c.drain.new.self.state c.stall_fault.new.node.state
    (drains_takes c.args.node.now.state c.drain.new.self.state c.drain.result.applied c.drain.ensures.released) c.stall_fault.ensures.same

pub returns-else-drain-clause-takes : goal.returns-else-drain-clause-takes
returns-else-drain-clause-takes c = drains_takes c.args.node.now.state c.drain.new.self.state c.drain.result.applied c.drain.ensures.released
