use Rattle.std.proofs.Common.{◌≡◌, length}
use Rattle.crdt_ops.specs.Reading.{parts_at}
use Rattle.op_log.specs.Damage.{has_commit_beyond}
use Rattle.op_log.proofs.damage.is_damaged.Given as goal

abbrev pub invariant-loop-line : goal.invariant-loop-line
invariant-loop-line l = has_commit_beyond l.octets (parts_at 10 l.left) ≡ has_commit_beyond l.octets (parts_at 10 l.rest)

abbrev pub decreases-loop-line : goal.decreases-loop-line
decreases-loop-line l = length l.left
