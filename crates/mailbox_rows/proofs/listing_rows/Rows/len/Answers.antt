use Rattle.std.proofs.Common.{subst}
use Rattle.mailbox_rows.specs.RowViews.{AreRisingRows}
use Rattle.mailbox_rows.proofs.listing_rows.Rows.len.Goals as goal

pub returns-clause-rising : goal.returns-clause-rising
returns-clause-rising c = subst (AreRisingRows 1) c.self.view_is c.self.invariant
