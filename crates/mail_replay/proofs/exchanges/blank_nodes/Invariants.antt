use Rattle.std.proofs.Common.{◌≡◌, length}
use Rattle.mail_replay.proofs.exchanges.blank_nodes.Given as goal

abbrev pub invariant-loop-replica : goal.invariant-loop-replica
invariant-loop-replica l = length l.nodes.items ≡ l.replica-index
