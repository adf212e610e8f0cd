use Rattle.std.proofs.Common.{List}
use Rattle.rev1_rename.specs.Exchanges.{AreExchanges, Exchange}
use Rattle.rev1_rename.specs.Steps.{AreDeletionsOf}
use Rattle.rev1_rename.proofs.mailbox_steps.delete_created.Given as goal

abbrev pub invariant-loop-mailbox : goal.invariant-loop-mailbox
invariant-loop-mailbox g l = (calls : List Exchange) × AreExchanges l.initial.pass calls l.pass × AreDeletionsOf l.mailboxes calls
