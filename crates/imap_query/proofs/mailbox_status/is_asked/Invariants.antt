use Rattle.std.proofs.Common.{◌≡◌, drop}
use Rattle.imap_query.specs.Status.{is_asked}
use Rattle.imap_query.proofs.mailbox_status.is_asked.Given as goal

abbrev pub invariant-loop-other : goal.invariant-loop-other
invariant-loop-other l = is_asked l.item (drop l.other-index l.items) ≡ is_asked l.item l.items
