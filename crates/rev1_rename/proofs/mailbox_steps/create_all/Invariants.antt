use Rattle.std.proofs.Common.{◌≡◌, List, take}
use Rattle.rev1_rename.specs.Exchanges.{AreExchanges, Exchange}
use Rattle.rev1_rename.specs.Steps.{AreCreations}
use Rattle.rev1_rename.proofs.mailbox_steps.create_all.Given as goal

abbrev pub invariant-loop-mailbox : goal.invariant-loop-mailbox
invariant-loop-mailbox g l =
    record {
      count : l.created ≡ l.mailbox-index;
      calls : (creations : List Exchange) × AreExchanges l.initial.pass creations l.pass × AreCreations (take l.mailbox-index l.mailboxes) creations;
    }
