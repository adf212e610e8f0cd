use Rattle.std.proofs.Common.{◌≡◌, [], List, take}
use Rattle.rev1_rename.specs.Exchanges.{AreExchanges, Exchange}
use Rattle.rev1_rename.specs.Steps.{AreRenamings, DeleteNoMessages}
use Rattle.rev1_rename.proofs.mailbox_steps.rename_all.Given as goal

abbrev pub invariant-loop-mailbox : goal.invariant-loop-mailbox
invariant-loop-mailbox g l =
    record {
      count : l.renamed ≡ l.mailbox-index;
      calls : (renamings : List Exchange) × AreExchanges l.initial.pass renamings l.pass × AreRenamings (take l.mailbox-index l.mailboxes) renamings
          × DeleteNoMessages l.mailboxes [] renamings;
    }
