use Rattle.std.proofs.Common.{List, subst, sym}
use Rattle.replica_lock.specs.Passes.{PassState}
use Rattle.rev1_rename.specs.Exchanges.{AreExchanges, Exchange}
use Rattle.rev1_rename.specs.Steps.{AreDeletionsOf}
use Rattle.rev1_rename.proofs.DeleteLemmas.{one_more_deleted}
use Rattle.rev1_rename.proofs.mailbox_steps.delete_created.Goals as goal
use Rattle.rev1_rename.proofs.mailbox_steps.delete_created.Goals.{in-Ok, in_default}

pub loop-mailbox-preserved : goal.loop-mailbox-preserved
loop-mailbox-preserved g c =
    let at = c.loop-mailbox.invariant in
    let ms = c.args.mailboxes.now in
    elim c.match-copy.branch [
      | in-Ok w ↦ subst (λ (p : PassState). (calls : List Exchange) × AreExchanges c.args.pass.now calls p × AreDeletionsOf ms calls) (sym w.pass-is)
          (one_more_deleted ms at.0 c.loop-mailbox.mailbox-index c.mailbox-item.result w.in-Ok.name w.give.result c.args.pass.now c.loop-mailbox.pass w.give.new.pass c.loop-mailbox-test.true c.mailbox-item.is w.in-Ok.ensures at.1 at.2 w.give.ensures)
      | in_default w ↦ subst (λ (p : PassState). (calls : List Exchange) × AreExchanges c.args.pass.now calls p × AreDeletionsOf ms calls) (sym w.pass-is) at
    ]
