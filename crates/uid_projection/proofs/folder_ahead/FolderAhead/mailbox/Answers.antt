use Rattle.std.proofs.Common.{◌≤◌, length, arith}
use Rattle.uid_projection.proofs.MailboxLemmas.{message_of_all, are_owned_insert, are_fresh_step}
use Rattle.uid_projection.proofs.folder_ahead.FolderAhead.mailbox.Goals as goal

pub loop-at-preserved : goal.loop-at-preserved
loop-at-preserved c =
    let now = c.in_ok-put_owned_at.ensures {u = tt} in
    let before = c.loop-at.invariant in (
      λ orderly. are_owned_insert c.args.self.now _ c.loop-at.fresh.entries c.put_owned_at.new.fresh.entries now orderly (before.0 orderly),
      are_fresh_step c.args.self.now c.loop-at.at c.loop-at.fresh.entries c.put_owned_at.new.fresh.entries now before.1,
    )

pub returns : goal.returns
returns c =
    let n = c.len-at-end.ensures.len in
    let long : length c.args.self.now.messages.versions.entries ≤ c.loop-at.at = omega (arith, n) in
    message_of_all c.args.self.now c.loop-at.at (record { mailbox = c.mailbox.result; fresh = c.loop-at.fresh }) long c.loop-at.invariant.0 c.loop-at.invariant.1 c.mailbox.ensures.contents
