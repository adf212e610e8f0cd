use Rattle.rev1_connection.proofs.DayLemmas.{asked_once}
use Rattle.rev1_connection.proofs.laws.days_are_asked_once.Goals as goal

pub returns : goal.returns
returns c = λ mode days frame it fetch h e. asked_once mode days frame it fetch h e
