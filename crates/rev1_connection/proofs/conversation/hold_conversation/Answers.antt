use Rattle.std.proofs.Common.{◌++◌, Ok, ap, inl, refl, rules, subst}
use Rattle.imap_lex.specs.Framing.{FramerState, cut_from, start}
use Rattle.imap_lex.specs.declared.limits.Limits.{Limits}
use Rattle.rev1_front.specs.FrontTexts.{greeting_line}
use Rattle.rev1_front.specs.declared.session.Mode.TheVariants.{Rev1}
use Rattle.rev1_connection.specs.Handling.{AnswersItem, StopsAt, awake}
use Rattle.rev1_connection.specs.ItemConversations.{EndsOverOctets}
use Rattle.imap_connection.proofs.ConversationsLemmas.{last_output_append}
use Rattle.rev1_connection.proofs.conversation.hold_conversation.Goals as goal

pub returns-clause-conversation : goal.returns-clause-conversation
returns-clause-conversation g c =
    let all = c.answer_all-ended.ensures.conversation in
    let new = c.answer_all-ended.new in
    let first = greeting_line c.args.opening.login in
    let ends =
    subst (λ (limits : Limits). EndsOverOctets (AnswersItem g.P.Port.steps g.P.RenamePort.renames) (StopsAt g.P.Port.steps g.P.RenamePort.renames) c.args.port.now (awake Rev1) (cut_from limits (Ok start) all.0) c.answer_all-ended.result (g.S.Source.is_ended new.source) all.1 new.port)
    (ap (λ (f : FramerState). f.limits) c.new.ensures) all.3 in (
      all.0,
      first ++ all.1,
      all.2,
      inl (all.1, refl, ends),
      last_output_append c.answer_all-ended.result (g.K.Sink.taken c.args.sink.now) (g.K.Sink.taken new.sink) c.extend_from_slice.new.self.items first all.1 new.talk.text.items (search rules) all.4,
    )
