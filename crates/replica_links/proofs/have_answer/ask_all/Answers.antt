use Rattle.replica_links.proofs.AskedLemmas.{asked_next}
use Rattle.replica_links.proofs.have_answer.ask_all.Goals as goal

pub loop-peer-preserved : goal.loop-peer-preserved
loop-peer-preserved g c =
    asked_next g.T.Taker.lacks g.T.Taker.has g.P.PeerLinks.asks c.args.taker.now c.args.peers.now c.loop-peer.peer-index c.args.links.now c.loop-peer.links c.ask.new.links c.loop-peer-test.true c.loop-peer.invariant c.ask.ensures
