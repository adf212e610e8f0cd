use Rattle.uid_projection.specs.FolderAhead.{IsOrderly}
use Rattle.uid_projection.proofs.MailboxLemmas.{AreOwned, AreFresh}
use Rattle.uid_projection.proofs.folder_ahead.FolderAhead.mailbox.Given as goal

abbrev pub invariant-loop-at : goal.invariant-loop-at
invariant-loop-at l = (IsOrderly l.self → AreOwned l.self l.fresh.entries) × AreFresh l.self l.at l.fresh.entries
