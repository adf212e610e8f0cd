use Rattle.std.proofs.Common.{true, refl, sym, subst}
use Rattle.imap_node.specs.declared.reply.Reply.{Reply}
use Rattle.imap_connection.proofs.ConversationsLemmas.{output_held}
use Rattle.rev1_connection.specs.ShownReplies.{IsReplyShown, refusal_text}
use Rattle.rev1_connection.proofs.reply_writer.write_unshown.Goals as goal

pub returns-in-Ok-clause-ok : goal.returns-in-Ok-clause-ok
returns-in-Ok-clause-ok g c =
    let u = c.args.unshown.now in
    let text = refusal_text u.manner u.tag c.in-Refused.why c.in-Refused.closed in (
      text,
      subst (λ (reply : Reply). IsReplyShown true u.mode u.manner u.tag reply text) (sym c.in-Refused.is) refl,
      output_held (g.K.Sink.taken c.args.sink.now) c.args.text.now.items text c.show_refusal.new.text.items c.in-Ok.ensures.ok,
    )
