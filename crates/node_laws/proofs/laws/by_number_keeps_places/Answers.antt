use Rattle.node_laws.proofs.ByNumberLemmas.{no_expunge, view_keeps_places}
use Rattle.node_laws.proofs.laws.by_number_keeps_places.Goals as goal

pub returns : goal.returns
returns c = record { expunges = no_expunge; places = view_keeps_places }
