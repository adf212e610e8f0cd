use Rattle.std.proofs.Common.{ap, subst}
use Rattle.mailbox_rows.specs.ListingEntries.{AreRising}
use Rattle.mailbox_rows.proofs.overlay.EntryOverlay.prove_ascending.Goals as goal

pub returns : goal.returns
returns c = subst (AreRising 1) (ap (λ o. o.entries) c.self.view_is) c.self.invariant.0
