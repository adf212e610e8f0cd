use Rattle.link_connection.proofs.PieceLemmas.{piece_fails, piece_read}
use Rattle.link_connection.proofs.link_reader.receive_piece.Goals as goal

pub returns-in-Ok-clause-received : goal.returns-in-Ok-clause-received
returns-in-Ok-clause-received g c limits key first stream h =
    piece_read g.R.Receiver.acts limits key first c.args.receiver.now stream c.args.octets.now c.args.framer.now c.feed.new.self h
    c.act_on_payloads.result c.in-Ok.payloads.items c.act_on_payloads.new.receiver c.feed.ensures.limits c.feed.ensures.key c.in-Ok.ensures.ok c.in-Ok.ensures.state_ok c.act_on_payloads.ensures

pub returns-in-Err-clause-received : goal.returns-in-Err-clause-received
returns-in-Err-clause-received g c limits key first stream h =
    piece_fails g.R.Receiver.acts limits key first c.args.receiver.now stream c.args.octets.now c.args.framer.now c.feed.new.self h
    c.in-Err.error.why c.in-Err.error.payloads.items c.act_before_fault.new.receiver c.act_before_fault.result c.in-Err.ensures.err c.act_before_fault.ensures
