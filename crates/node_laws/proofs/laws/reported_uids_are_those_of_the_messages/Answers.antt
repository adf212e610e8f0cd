use Rattle.node_laws.proofs.ReplyLemmas.{append_reported, copies_reported, moves_reported}
use Rattle.node_laws.proofs.laws.reported_uids_are_those_of_the_messages.Goals as goal

pub returns : goal.returns
returns c = record { appends = append_reported; copies = copies_reported; moves = moves_reported }
