use Rattle.body_print.proofs.ReadBackLemmas.{one_reading}
use Rattle.body_print.proofs.laws.one_reading.Goals as goal

pub returns : goal.returns
returns c = one_reading
