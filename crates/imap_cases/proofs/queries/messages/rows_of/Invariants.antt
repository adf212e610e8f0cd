use Rattle.std.proofs.Common.{List, ◌++◌, map}
use Rattle.mailbox_rows.specs.ListedMessage.{ListedMessage}
use Rattle.mailbox_rows.specs.RowViews.{AreRisingRows, owned_message}
use Rattle.imap_cases.proofs.queries.messages.rows_of.Given as goal

abbrev pub invariant-loop-message : goal.invariant-loop-message
invariant-loop-message l = (rest : List ListedMessage) → AreRisingRows l.low rest → AreRisingRows 1 (map owned_message l.rows.items ++ rest)
