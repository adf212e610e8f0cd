use Rattle.std.proofs.Common.{◌≡◌, ◌+◌, ◌≤◌, drop, length}
use Rattle.std.specs.List.{filter}
use Rattle.imap_query.specs.Messages.{is_flagged}
use Rattle.imap_query.proofs.mailbox_status.count.Given as goal

abbrev pub invariant-loop-place : goal.invariant-loop-place
invariant-loop-place l =
    (l.count ≤ l.place)
    × (l.count + length (filter (is_flagged l.flag l.is_set) (drop l.place l.rows)) ≡ length (filter (is_flagged l.flag l.is_set) l.rows))
