use Rattle.replica_links.proofs.WorkerRunLemmas.{worker_run_none, worker_run_append}
use Rattle.replica_links.proofs.link_input.link_worker.Goals as goal

pub loop-init : goal.loop-init
loop-init g c = (
  tt,
  tt,
  worker_run_none g.T.Taker.takes g.T.Taker.drains g.T.Taker.lacks g.T.Taker.has g.T.Taker.gives g.P.PeerLinks.asks g.P.PeerLinks.sends c.args.input.now.peers.now c.args.input.now.asks_first c.args.taker.now c.args.links.now c.ask_first.new.links c.ask_first.ensures,
)

pub returns-then-not-turn : goal.returns-then-not-turn
returns-then-not-turn g c =
    worker_run_append g.T.Taker.takes g.T.Taker.drains g.T.Taker.lacks g.T.Taker.has g.T.Taker.gives g.P.PeerLinks.asks g.P.PeerLinks.sends c.args.input.now.peers.now c.args.input.now.asks_first c.args.taker.now c.args.links.now
    c.loop.taker c.loop.links c.turn.new.taker c.turn.new.links c.loop.invariant.2 c.if-not-turn.ensures

pub loop-preserved : goal.loop-preserved
loop-preserved g c = (
  tt,
  tt,
  worker_run_append g.T.Taker.takes g.T.Taker.drains g.T.Taker.lacks g.T.Taker.has g.T.Taker.gives g.P.PeerLinks.asks g.P.PeerLinks.sends c.args.input.now.peers.now c.args.input.now.asks_first c.args.taker.now c.args.links.now
      c.loop.taker c.loop.links c.turn.new.taker c.turn.new.links c.loop.invariant.2 c.if-not-turn.ensures,
)
