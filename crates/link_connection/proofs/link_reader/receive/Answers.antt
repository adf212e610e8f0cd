use Rattle.std.proofs.Common.{[], List, ℕ, ◌++◌, sym, subst, append-nil, arith}
use Rattle.link_wire.specs.Digests.{frame_digest}
use Rattle.link_connection.specs.Received.{HasReceived}
use Rattle.link_connection.proofs.PieceLemmas.{receiving_first}
use Rattle.link_connection.proofs.SourceLemmas.{gives_nothing}
use Rattle.link_connection.proofs.link_reader.receive.Goals as goal

pub returns-in-Ok-clause-received : goal.returns-in-Ok-clause-received
returns-in-Ok-clause-received g c =
    let limits = c.args.limits in
    let key = c.args.key in
    let s = c.args.receiver.now in
    let first = receiving_first g.R.Receiver.acts limits key s c.new-framer.result (omega arith) c.new-framer.ensures in
    c.receive_rest.ensures.received limits key s c.args.begun.now (c.in-Ok.ensures.received limits key s [] first)

pub returns-clause-received : goal.returns-clause-received
returns-clause-received g c =
    let limits = c.args.limits in
    let key = c.args.key in
    let s = c.args.receiver.now in
    let first = receiving_first g.R.Receiver.acts limits key s c.new-framer.result (omega arith) c.new-framer.ensures in (
      [],
      gives_nothing (g.S.Source.left c.args.source.now),
      subst (λ (octets : List ℕ). HasReceived g.R.Receiver.acts limits (frame_digest key) s octets c.in-Err.end c.receive_piece.new.receiver) (sym (append-nil c.args.begun.now)) (c.in-Err.ensures.received limits key s [] first),
    )
