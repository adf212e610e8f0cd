use Rattle.std.proofs.Common.{refl, ap}
use Rattle.imap_connection.specs.PortCalls as asked
use Rattle.imap_connection.specs.Requests.{idling_after_reply, logs_out}
use Rattle.imap_connection.specs.declared.request.Request.TheVariants as requests
use Rattle.imap_connection.specs.Replies.{answers_of}
use Rattle.imap_connection.proofs.ConversationsLemmas.{broken, refused}
use Rattle.imap_connection.proofs.request_steps.take_command.Goals as goal

pub returns-in-Err-clause-err : goal.returns-in-Err-clause-err
returns-in-Err-clause-err g c =
    refused g.P.Port.steps c.args.idling.now c.args.text.now.items c.args.text.now.items c.args.port.now c.command.new.self (requests.Command c.args.tagged) (asked.Command c.args.tagged)
    c.in-Err.fault c.end_reason_of.result refl c.in-Err.ensures c.end_reason_of.ensures refl

pub returns-in_default-print_reply-clause-err : goal.returns-in_default-print_reply-clause-err
returns-in_default-print_reply-clause-err g c =
    let reply = c.in-Ok-command.reply in
    broken g.P.Port.steps c.args.idling.now c.args.text.now.items c.print_reply.new.text.items c.args.port.now c.command.new.self (requests.Command c.args.tagged)
    (answers_of c.in-Ok.tag reply) (idling_after_reply c.args.tagged reply) (logs_out c.args.tagged reply)
    (reply, c.in-Ok-command.ensures, ap (λ t. answers_of t reply) c.in-Ok.ensures, refl, refl) c.in_default-print_reply.ensures.err
