use Rattle.std.proofs.Common.{rules}
use Rattle.imap_connection.proofs.OtherStepsLemmas.{idles_after_others}
use Rattle.imap_connection.proofs.node_port.NodePortPort.done.Goals as goal

pub done-requires : goal.done-requires
done-requires g c = idles_after_others _ _ _ c.take_turn-moment.ensures.other_steps (c.is_idling.ensures.0 c.if-not-is_idling.false)
