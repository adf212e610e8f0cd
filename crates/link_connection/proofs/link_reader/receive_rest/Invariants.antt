use Rattle.std.proofs.Common.{◌≡◌, length}
use Rattle.link_connection.proofs.SourceLemmas.{HasRead}
use Rattle.link_connection.proofs.link_reader.receive_rest.Given as goal

abbrev pub invariant-loop : goal.invariant-loop
invariant-loop g l =
    (goal.iterator-loop g).can_next l.iterator' × (goal.iterator-loop g).is_finite l.iterator'
    × HasRead g.R.Receiver.acts (g.S.Source.left l.initial.source) l.initial.framer l.initial.receiver (g.S.Source.left l.source) l.framer l.receiver
    × (g.S.Source.failures l.source ≡ g.S.Source.failures l.initial.source)
    × (length l.piece ≡ 65536)
