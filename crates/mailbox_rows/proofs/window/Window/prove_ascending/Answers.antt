use Rattle.std.proofs.Common.{subst}
use Rattle.mailbox_rows.specs.RowViews.{AreRisingRows}
use Rattle.mailbox_rows.proofs.WindowLemmas.{rows_rising}
use Rattle.mailbox_rows.proofs.window.Window.prove_ascending.Goals as goal

pub returns : goal.returns
returns c = let w = c.self.inside in subst (AreRisingRows 1) c.self.view_is (rows_rising 1 w.fresh.entries w.mailbox w.entries.entries c.prove_ascending.ensures)
