use Rattle.std.proofs.Common.{List, ap, subst}
use Rattle.imap_lex.specs.Framing.{Cut, cut_from}
use Rattle.imap_lex.specs.declared.item.Item.{Item}
use Rattle.rev1_connection.specs.Handling.{AnswersItem, StopsAt}
use Rattle.rev1_connection.specs.ItemConversations.{EndsAtItem}
use Rattle.rev1_connection.proofs.ItemConversationLemmas.{halts_before, halts_whole}
use Rattle.rev1_connection.proofs.conversation.answer_piece.Goals as goal

pub returns-in-Ok-clause-err : goal.returns-in-Ok-clause-err
returns-in-Ok-clause-err g c =
    let cut = cut_from c.args.talk.now.framer.limits c.args.talk.now.framer.state c.args.piece.now in
    halts_whole (AnswersItem g.P.Port.steps g.P.RenamePort.renames) (StopsAt g.P.Port.steps g.P.RenamePort.renames) c.args.port.now c.answer_items.new.port c.args.talk.now.session (g.K.Sink.taken c.args.sink.now) (g.K.Sink.taken c.answer_items.new.sink) c.args.talk.now.text.items c.answer_items.new.text.items
    c.answer_items.result c.in-Ok.items.items c.deref.result.now cut (ap (λ (k : Cut). k.0) {x = cut} c.in-Ok.ensures.ok) c.deref.ensures.value c.answer_items.ensures.err

pub returns-in-Err-answer_items-clause-err : goal.returns-in-Err-answer_items-clause-err
returns-in-Err-answer_items-clause-err g c =
    let framer = c.args.talk.now.framer in
    let o = c.in-Err-answer_items.ensures.err in
    let leaves =
    subst (λ (xs : List Item). EndsAtItem (AnswersItem g.P.Port.steps g.P.RenamePort.renames) (StopsAt g.P.Port.steps g.P.RenamePort.renames) c.args.port.now c.args.talk.now.session xs c.in-Err-answer_items.ended o.0 c.answer_items-in-Err.new.port) c.deref-in-Err.ensures.value o.1 in (
      o.0,
      halts_before (AnswersItem g.P.Port.steps g.P.RenamePort.renames) (StopsAt g.P.Port.steps g.P.RenamePort.renames) c.in-Err.fault.why c.args.port.now c.args.talk.now.session c.in-Err.fault.items.items framer.state c.feed.new.self.state (cut_from framer.limits framer.state c.args.piece.now)
          c.in-Err-answer_items.ended o.0 c.answer_items-in-Err.new.port c.in-Err.ensures.err leaves,
      o.2,
    )
