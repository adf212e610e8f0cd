use Rattle.std.proofs.Common.{◌+◌, ◌++◌, ap, subst, sym, take}
use Rattle.rev1_rename.specs.Steps.{AreRenamings}
use Rattle.rev1_rename.proofs.CallLemmas.{exchanges_append}
use Rattle.rev1_rename.proofs.DeleteLemmas.{one_more_safe}
use Rattle.rev1_rename.proofs.PartLemmas.{renamings_more}
use Rattle.rev1_rename.proofs.mailbox_steps.rename_all.Goals as goal

pub returns-in_err-rename_one-clause-calls : goal.returns-in_err-rename_one-clause-calls
returns-in_err-rename_one-clause-calls g c =
    let at = c.loop-mailbox.invariant in
    let ms = c.args.mailboxes.now in
    let more = c.rename_one.ensures in (
      at.calls.0,
      more.0,
      exchanges_append at.calls.0 more.0 c.args.pass.now c.loop-mailbox.pass c.rename_one.new.pass at.calls.1 more.1,
      subst (λ count. AreRenamings (take count ms) at.calls.0) (sym at.count) at.calls.2,
      one_more_safe ms at.calls.0 more.0 c.loop-mailbox.mailbox-index c.mailbox-item.result c.loop-mailbox-test.true c.mailbox-item.is at.calls.3 more.2,
    )

pub loop-mailbox-preserved : goal.loop-mailbox-preserved
loop-mailbox-preserved g c =
    let at = c.loop-mailbox.invariant in
    let ms = c.args.mailboxes.now in
    let more = c.in_ok-rename_one.ensures in
    record {
      count = ap (λ n. n + 1) at.count;
      calls = (
        at.calls.0 ++ more.0,
        exchanges_append at.calls.0 more.0 c.args.pass.now c.loop-mailbox.pass c.rename_one.new.pass at.calls.1 more.1,
        renamings_more ms at.calls.0 more.0 c.loop-mailbox.mailbox-index c.mailbox-item.result c.loop-mailbox-test.true c.mailbox-item.is at.calls.2 more.3,
        one_more_safe ms at.calls.0 more.0 c.loop-mailbox.mailbox-index c.mailbox-item.result c.loop-mailbox-test.true c.mailbox-item.is at.calls.3 more.2,
      );
    }
