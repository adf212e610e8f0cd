use Rattle.std.proofs.Common.{◌≡◌, ◌+◌, ◌-◌, ◌*◌, ◌≤◌}
use Rattle.mail_parts.specs.Reading.{AreUnderway}
use Rattle.mail_parts.proofs.cutting.+parts.Given as goal

abbrev pub decreases-read_body : goal.decreases-read_body
decreases-read_body l = 4 * (100 - l.start.depth) - 1

abbrev pub decreases-read_multipart : goal.decreases-read_multipart
decreases-read_multipart l = 4 * (100 - l.start.depth) + 2

abbrev pub decreases-read_part : goal.decreases-read_part
decreases-read_part l = 4 * (100 - l.start.depth)

abbrev pub decreases-read_parts : goal.decreases-read_parts
decreases-read_parts l = 4 * (100 - l.start.depth) + 1

abbrev pub invariant-read_parts-loop : goal.invariant-read_parts-loop
invariant-read_parts-loop l =
    record {
      far : l.counter ≤ l.size;
      same : l.boundaries.items ≡ l.initial.boundaries.items;
      underway : AreUnderway l.initial.boundaries.items l.own l.start.place l.start.depth l.start.in_digest l.text l.initial.size l.size l.initial.parts.items l.parts.items;
    }
