use Rattle.std.proofs.Common.{◌≡◌, length}
use Rattle.mail_replay.proofs.ExchangeLemmas.{nodes_until, replicas_until}
use Rattle.mail_replay.proofs.exchanges.swap_nodes.Given as goal

abbrev pub invariant-loop-place : goal.invariant-loop-place
invariant-loop-place l = record {
  replicas : l.replicas ≡ replicas_until l.place l.fn.replicas l.fn.nodes;
  nodes : l.nodes ≡ nodes_until l.place l.fn.replicas l.fn.nodes;
  same_length : length l.replicas ≡ length l.fn.replicas;
  same : length l.nodes ≡ length l.fn.nodes;
}
