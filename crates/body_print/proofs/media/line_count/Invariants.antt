use Rattle.std.proofs.Common.{◌≡◌, ◌+◌, ◌≤◌, drop}
use Rattle.body_print.specs.Bodies.{line_count, line_count_after}
use Rattle.body_print.proofs.media.line_count.Given as goal

abbrev pub invariant-loop-octet : goal.invariant-loop-octet
invariant-loop-octet l =
    record {
      few : l.count ≤ l.octet-index;
      same : l.count + line_count_after l.after_cr (drop l.octet-index l.octets) ≡ line_count l.octets;
    }
