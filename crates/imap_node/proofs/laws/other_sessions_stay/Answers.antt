use Rattle.imap_node.proofs.ReplayLemmas.{closed_view, closes_alone, others_as_before}
use Rattle.imap_node.proofs.laws.other_sessions_stay.Goals as goal

pub returns : goal.returns
returns c = record { inputs = others_as_before; closes = closes_alone; ended = closed_view }
