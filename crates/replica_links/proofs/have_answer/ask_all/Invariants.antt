use Rattle.std.proofs.Common.{take}
use Rattle.replica_links.specs.Links.{AreAsked}
use Rattle.replica_links.proofs.have_answer.ask_all.Given as goal

abbrev pub invariant-loop-peer : goal.invariant-loop-peer
invariant-loop-peer g l = AreAsked g.T.Taker.lacks g.T.Taker.has g.P.PeerLinks.asks l.taker l.initial.links (take l.peer-index l.peers) l.links
