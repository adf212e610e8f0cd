use Rattle.rev1_front.proofs.SearchTakenLemmas.{taken_search}
use Rattle.rev1_front.proofs.laws.searches_are_taken.Goals as goal

pub returns : goal.returns
returns c = λ mode days by_uid tag frame options steps it uids h unspelled taken. taken_search mode days by_uid tag frame options steps it uids h unspelled taken
