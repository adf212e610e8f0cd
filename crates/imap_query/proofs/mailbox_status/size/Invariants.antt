use Rattle.std.proofs.Common.{◌≡◌, ◌+◌, ◌≤◌, drop}
use Rattle.std.specs.List.{sum_by}
use Rattle.std.specs.Prelude.{min}
use Rattle.imap_query.specs.Status.{size_of}
use Rattle.imap_query.proofs.mailbox_status.size.Given as goal

abbrev pub invariant-loop-place : goal.invariant-loop-place
invariant-loop-place l =
    (l.size ≤ 18446744073709551615)
    × (min (l.size + sum_by size_of (drop l.place l.rows)) 18446744073709551615 ≡ min (sum_by size_of l.rows) 18446744073709551615)
