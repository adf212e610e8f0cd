use Rattle.rev1_front.proofs.FirstSearchLemmas.{first_taken}
use Rattle.rev1_front.proofs.laws.days_are_asked_for.Goals as goal

pub returns : goal.returns
returns c = λ mode by_uid tag frame options steps it h unspelled taken. first_taken mode by_uid tag frame options steps h it unspelled taken
