use Rattle.std.proofs.Common.{sym, ◌∙◌}
use Rattle.imap_connection.proofs.ReplyLemmas.{line_refused, responds_open}
use Rattle.imap_connection.proofs.RequestLemmas.{refused_fails}
use Rattle.imap_connection.proofs.talk_steps.take_line.Goals as goal

pub returns-then-is_out_of_memory-clause-err : goal.returns-then-is_out_of_memory-clause-err
returns-then-is_out_of_memory-clause-err c =
    let old = c.args.node.now.state in
    let new = c.done-reply.new.self.state in
    refused_fails c.refuse_line.result old new c.args.session 0 c.args.tag c.args.line c.args.turns.now.items c.refuse_line.new.turns.items c.refuse_line.ensures
    (line_refused old new c.args.session c.args.line c.done-reply.result c.done-reply.ensures (sym c.is_out_of_memory.ensures ∙ c.if-is_out_of_memory.true))

pub returns-in-Ok-clause-open : goal.returns-in-Ok-clause-open
returns-in-Ok-clause-open c = responds_open _ _ c.args.session _ _ c.done-reply.ensures

pub returns-in-Err-clause-open : goal.returns-in-Err-clause-open
returns-in-Err-clause-open c = responds_open _ _ c.args.session _ _ c.done-reply.ensures
