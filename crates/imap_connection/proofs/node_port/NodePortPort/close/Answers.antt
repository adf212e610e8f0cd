use Rattle.std.proofs.Common.{rules}
use Rattle.imap_connection.proofs.OtherStepsLemmas.{open_after_others}
use Rattle.imap_connection.proofs.node_port.NodePortPort.close.Goals as goal

pub close-requires : goal.close-requires
close-requires g c = open_after_others _ _ _ c.take_turn.ensures.other_steps (search rules)
