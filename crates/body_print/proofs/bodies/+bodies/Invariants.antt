use Rattle.std.proofs.Common.{◌≡◌, ◌+◌, ◌*◌, ◌≤◌, ◌++◌, length}
use Rattle.body_print.specs.Bodies.{bodies_of}
use Rattle.body_print.specs.Values.{joined_text}
use Rattle.body_print.proofs.bodies.+bodies.Given as goal

abbrev pub decreases-push_bodies : goal.decreases-push_bodies
decreases-push_bodies l = 5 * length l.parts.now

abbrev pub decreases-push_bodies_or_empty : goal.decreases-push_bodies_or_empty
decreases-push_bodies_or_empty l = 5 * length l.inner.now + 1

abbrev pub decreases-push_message : goal.decreases-push_message
decreases-push_message l = 5 * length l.inner.now + 2

abbrev pub decreases-push_multipart : goal.decreases-push_multipart
decreases-push_multipart l = 5 * length l.inner.now + 2

abbrev pub decreases-push_part : goal.decreases-push_part
decreases-push_part l = 5 * length l.inner.now + 3

abbrev pub decreases-push_first : goal.decreases-push_first
decreases-push_first l = 5 * length l.tail.now + 4

abbrev pub invariant-push_bodies-loop : goal.invariant-push_bodies-loop
invariant-push_bodies-loop l =
    record {
      left : l.counter + length l.rest ≤ length l.parts;
      same : l.out.items ++ joined_text (bodies_of l.extended l.text l.rest) ≡ l.initial.out.items ++ joined_text (bodies_of l.extended l.text l.parts);
    }
