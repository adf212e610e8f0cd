use Rattle.std.proofs.Common.{◌∙◌, ◌&&◌, ℕ, List, ap, subst}
use Rattle.imap_node.specs.Replies.{is_done}
use Rattle.rev1_connection.specs.ShownReplies.{IsReplyShown}
use Rattle.rev1_connection.proofs.call_steps.give_command.Goals as goal

pub returns-clause-ok : goal.returns-clause-ok
returns-clause-ok g c whole given s =
    let reply = c.in-Ok-command.reply in (
      reply,
      c.in-Ok-command.ensures,
      subst (λ (tag : List ℕ). IsReplyShown whole c.args.session.now.mode c.args.manner tag reply given) c.in-Ok.ensures s,
      c.session_after.ensures c.args.tagged c.in-Ok-awaited_after.ensures,
      c.logs_out-leaves.ensures ∙ ap (λ b. b && is_done reply) c.is_logout-is_logout.ensures,
    )
