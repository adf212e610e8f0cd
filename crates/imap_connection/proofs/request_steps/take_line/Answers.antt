use Rattle.std.proofs.Common.{None, false, refl, sym, ◌∙◌}
use Rattle.imap_connection.specs.PortCalls as asked
use Rattle.imap_connection.specs.declared.request.Request.TheVariants as requests
use Rattle.imap_connection.specs.Replies.{answers_of}
use Rattle.imap_connection.proofs.ConversationsLemmas.{broken, line_refused, refused}
use Rattle.imap_connection.proofs.request_steps.take_line.Goals as goal

pub returns-in-Err-clause-err : goal.returns-in-Err-clause-err
returns-in-Err-clause-err g c =
    refused g.P.Port.steps c.args.idling.now c.args.text.now.items c.args.text.now.items c.args.port.now c.done.new.self (requests.Line c.args.tag c.args.line) (asked.Line c.args.line)
    c.in-Err.fault c.end_reason_of.result refl c.in-Err.ensures c.end_reason_of.ensures refl

pub returns-then-is_out_of_memory-clause-err : goal.returns-then-is_out_of_memory-clause-err
returns-then-is_out_of_memory-clause-err g c =
    line_refused g.P.Port.steps c.args.idling.now c.args.text.now.items c.args.text.now.items c.args.port.now c.done.new.self c.args.tag c.args.line c.in-Ok.reply c.in-Ok.ensures
    (sym c.is_out_of_memory.ensures ∙ c.if-is_out_of_memory.true) refl

pub returns-in_default-clause-err : goal.returns-in_default-clause-err
returns-in_default-clause-err g c =
    let reply = c.in-Ok.reply in
    broken g.P.Port.steps c.args.idling.now c.args.text.now.items c.print_reply.new.text.items c.args.port.now c.done.new.self (requests.Line c.args.tag c.args.line)
    (answers_of c.args.tag reply) None false
    (reply, c.in-Ok.ensures, sym c.is_out_of_memory.ensures ∙ c.if-is_out_of_memory.false, refl, refl, refl) c.in_default.ensures.err
