use Rattle.std.proofs.Common.{List, ap, subst}
use Rattle.imap_lex.specs.Framing.{Cut, cut_from}
use Rattle.imap_lex.specs.declared.item.Item.{Item}
use Rattle.imap_connection.specs.Conversations.{EndsOverItems}
use Rattle.imap_connection.proofs.ConversationsLemmas.{halts_before, halts_whole}
use Rattle.imap_connection.proofs.conversations.answer_piece.Goals as goal

pub returns-in-Ok-clause-err : goal.returns-in-Ok-clause-err
returns-in-Ok-clause-err g c =
    let cut = cut_from c.args.talk.now.framer.limits c.args.talk.now.framer.state c.args.piece.now in
    halts_whole g.P.Port.steps c.args.port.now c.take_all.new.port c.args.talk.now.idling (g.K.Sink.taken c.args.sink.now) (g.K.Sink.taken c.take_all.new.sink) c.args.talk.now.text.items c.take_all.new.text.items
    c.take_all.result c.in-Ok.items.items c.deref.result.now cut (ap (λ (k : Cut). k.0) {x = cut} c.in-Ok.ensures.ok) c.deref.ensures.value c.take_all.ensures.err

pub returns-in-Err-take_all-clause-err : goal.returns-in-Err-take_all-clause-err
returns-in-Err-take_all-clause-err g c =
    let framer = c.args.talk.now.framer in
    let o = c.in-Err-take_all.ensures.err in
    let leaves =
    subst (λ (xs : List Item). EndsOverItems g.P.Port.steps c.args.port.now c.args.talk.now.idling xs c.in-Err-take_all.ended o.0 c.take_all-in-Err.new.port) c.deref-in-Err.ensures.value o.1 in (
      o.0,
      halts_before g.P.Port.steps c.in-Err.fault.why c.args.port.now c.args.talk.now.idling c.in-Err.fault.items.items framer.state c.feed.new.self.state (cut_from framer.limits framer.state c.args.piece.now)
          c.in-Err-take_all.ended o.0 c.take_all-in-Err.new.port c.in-Err.ensures.err leaves,
      o.2,
    )
