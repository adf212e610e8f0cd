use Rattle.std.proofs.Common.{◌≡◌, ◌+◌, ◌≤◌, drop, length}
use Rattle.std.specs.List.{sum_by}
use Rattle.std.specs.Prelude.{min}
use Rattle.op_log.proofs.line_bounds.keywords_bound.Given as goal

abbrev pub invariant-loop-keyword : goal.invariant-loop-keyword
invariant-loop-keyword l =
    (l.octets ≤ 18446744073709551615)
    × (min (l.octets + sum_by (λ keyword. 1 + length keyword) (drop l.keyword-index l.flags.keywords)) 18446744073709551615
    ≡ min (sum_by (λ keyword. 1 + length keyword) l.flags.keywords) 18446744073709551615)
