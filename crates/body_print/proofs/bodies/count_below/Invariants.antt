use Rattle.std.proofs.Common.{◌≡◌, ◌++◌, take, drop}
use Rattle.mail_parts.specs.Nesting.{parts_after, parts_below}
use Rattle.body_print.proofs.bodies.count_below.Given as goal

abbrev pub invariant-loop-count : goal.invariant-loop-count
invariant-loop-count l =
    record {
      below : take l.count l.parts ++ parts_below l.depth (drop l.count l.parts) ≡ parts_below l.depth l.parts;
      after : parts_after l.depth (drop l.count l.parts) ≡ parts_after l.depth l.parts;
    }
