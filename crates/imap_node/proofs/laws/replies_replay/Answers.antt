use Rattle.imap_node.proofs.ReplayLemmas.{replies_replay}
use Rattle.imap_node.proofs.laws.replies_replay.Goals as goal

pub returns : goal.returns
returns c = replies_replay
