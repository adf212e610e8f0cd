use Rattle.std.proofs.Common.{◌≡◌, ◌≤◌, ◌-◌, drop, length}
use Rattle.mail_bench.specs.Replies.{scan}
use Rattle.mail_bench.proofs.replies.Reading.read.Given as goal

abbrev pub invariant-loop-at : goal.invariant-loop-at
invariant-loop-at l =
    record {
      so_far : scan l.initial.self.stage l.initial.self.line.items l.octets ≡ scan l.self.stage l.self.line.items (drop l.at l.octets);
      within : l.at ≤ length l.octets;
    }

abbrev pub decreases-loop-at : goal.decreases-loop-at
decreases-loop-at l = length l.octets - l.at
