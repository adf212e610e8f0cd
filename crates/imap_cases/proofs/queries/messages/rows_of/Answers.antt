use Rattle.std.proofs.Common.{List, [], map, subst, append-nil}
use Rattle.mailbox_rows.specs.ListedMessage.{ListedMessage}
use Rattle.mailbox_rows.specs.RowViews.{AreRisingRows, owned_message}
use Rattle.imap_cases.proofs.queries.messages.rows_of.Goals as goal

pub from_ascending-requires : goal.from_ascending-requires
from_ascending-requires c = subst (λ (rows : List ListedMessage). AreRisingRows 1 rows) (append-nil (map owned_message c.loop-message.rows.items)) (c.loop-message.invariant [] tt)
