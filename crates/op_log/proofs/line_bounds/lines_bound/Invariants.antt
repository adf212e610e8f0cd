use Rattle.std.proofs.Common.{◌≡◌, ◌+◌, ◌≤◌, drop}
use Rattle.std.specs.Prelude.{min}
use Rattle.op_log.specs.LineBounds.{lines_bound}
use Rattle.op_log.proofs.line_bounds.lines_bound.Given as goal

abbrev pub invariant-loop-op : goal.invariant-loop-op
invariant-loop-op l =
    (l.octets ≤ 18446744073709551615)
    × (min (l.octets + lines_bound (drop l.op-index l.ops)) 18446744073709551615 ≡ min (lines_bound l.ops) 18446744073709551615)
