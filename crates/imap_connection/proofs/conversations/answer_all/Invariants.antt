use Rattle.std.proofs.Common.{◌≡◌, length}
use Rattle.imap_connection.proofs.ConversationsLemmas.{Underway}
use Rattle.imap_connection.proofs.conversations.answer_all.Given as goal

abbrev pub invariant-loop : goal.invariant-loop
invariant-loop g l =
    (goal.iterator-loop g).can_next l.iterator' × (goal.iterator-loop g).is_finite l.iterator'
    × Underway g.P.Port.steps l.initial.talk.framer.limits l.initial.port (g.S.Source.left l.initial.source) (g.K.Sink.taken l.initial.sink) l.initial.talk.text.items l.port l.talk.idling (g.S.Source.left l.source) (g.K.Sink.taken l.sink) l.talk.text.items l.talk.framer.state
    × (l.talk.framer.limits ≡ l.initial.talk.framer.limits)
    × (g.S.Source.failures l.source ≡ g.S.Source.failures l.initial.source)
    × (g.K.Sink.failures l.sink ≡ g.K.Sink.failures l.initial.sink)
    × (length l.piece ≡ 65536)
