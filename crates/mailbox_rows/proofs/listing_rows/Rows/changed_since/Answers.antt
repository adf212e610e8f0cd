use Rattle.std.proofs.Common.{List, ap, subst, sym, nat_lt, ◌∙◌}
use Rattle.mailbox_rows.specs.ListedMessage.{ListedMessage}
use Rattle.mailbox_rows.specs.RowViews.{AreRisingRows, changed_since}
use Rattle.mailbox_rows.proofs.WindowLemmas.{rising_left}
use Rattle.mailbox_rows.proofs.listing_rows.Rows.changed_since.Goals as goal

pub from_ascending-requires : goal.from_ascending-requires
from_ascending-requires c = subst (AreRisingRows 1) (sym (c.in_ok-changed.ensures {u = tt} ∙ ap (changed_since c.args.modseq) c.self.view_is)) (rising_left (λ (row : ListedMessage). nat_lt c.args.modseq row.modseq) 1 c.args.self.now c.len-len.ensures.rising)
