use Rattle.imap_connection.proofs.NodeEndLemmas.{conversation_at_node}
use Rattle.imap_connection.proofs.node_talks.nodes_converse.Goals as goal

pub returns : goal.returns
returns g c old new limits left rest before after at_end ended w h = conversation_at_node g.O.Others.takes_turn old new limits left rest before after at_end ended w h
