use Rattle.std.proofs.Common.{◌≡◌, ◌+◌, length}
use Rattle.imap_node.specs.Deliveries.{DrainsHeld}
use Rattle.imap_node.proofs.node.Node.drain.Given as goal

abbrev pub invariant-loop-applied : goal.invariant-loop-applied
invariant-loop-applied l = record {
  released : DrainsHeld l.fn.self.state l.applied l.self.state;
  count : l.applied + length l.self.state.held ≡ l.count;
}
