use Rattle.std.proofs.Common.{◌≡◌, length}
use Rattle.rev1_connection.proofs.ItemConversationLemmas.{Underway}
use Rattle.rev1_front.specs.declared.session.Mode.TheVariants.{Rev1}
use Rattle.rev1_connection.specs.Handling.{AnswersItem, StopsAt, awake}
use Rattle.rev1_connection.proofs.conversation.answer_all.Given as goal

abbrev pub invariant-loop : goal.invariant-loop
invariant-loop g l =
    (goal.iterator-loop g).can_next l.iterator' × (goal.iterator-loop g).is_finite l.iterator'
    × Underway (AnswersItem g.P.Port.steps g.P.RenamePort.renames) (StopsAt g.P.Port.steps g.P.RenamePort.renames) l.initial.talk.framer.limits l.initial.port (awake Rev1) (g.S.Source.left l.initial.source) (g.K.Sink.taken l.initial.sink) l.initial.talk.text.items l.port l.talk.session (g.S.Source.left l.source) (g.K.Sink.taken l.sink) l.talk.text.items l.talk.framer.state
    × (l.talk.framer.limits ≡ l.initial.talk.framer.limits)
    × (g.S.Source.failures l.source ≡ g.S.Source.failures l.initial.source)
    × (g.K.Sink.failures l.sink ≡ g.K.Sink.failures l.initial.sink)
    × (length l.piece ≡ 65536)
