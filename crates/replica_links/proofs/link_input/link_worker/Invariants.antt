use Rattle.replica_links.specs.Links.{IsWorkerRun}
use Rattle.replica_links.proofs.link_input.link_worker.Given as goal

abbrev pub invariant-loop : goal.invariant-loop
invariant-loop g l =
    (goal.iterator-loop g).can_next l.iterator' × (goal.iterator-loop g).is_finite l.iterator'
    × IsWorkerRun g.T.Taker.takes g.T.Taker.drains g.T.Taker.lacks g.T.Taker.has g.T.Taker.gives g.P.PeerLinks.asks g.P.PeerLinks.sends l.input.peers.now l.input.asks_first l.fn.taker l.fn.links l.taker l.links
