use Rattle.rev1_fetch.proofs.NodeLemmas.{numbers_node}
use Rattle.rev1_fetch.proofs.laws.numbers_are_those_of_bodies.Goals as goal

pub returns : goal.returns
returns c = λ message path part parts h. numbers_node message path part parts h
