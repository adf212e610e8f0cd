use Rattle.std.proofs.Common.{◌≡◌, ◌-◌}
use Rattle.imap_print.specs.Reading.{runs_at, with_prefix}
use Rattle.imap_print.proofs.scanner.runs.Given as goal

abbrev pub invariant-loop-index : goal.invariant-loop-index
invariant-loop-index l = with_prefix l.parsed.items (runs_at (l.count - l._index) l.rest) ≡ runs_at l.count l.bytes
