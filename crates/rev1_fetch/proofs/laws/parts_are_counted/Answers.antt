use Rattle.rev1_fetch.proofs.ChildLemmas.{child_found, child_missing}
use Rattle.rev1_fetch.proofs.laws.parts_are_counted.Goals as goal

pub returns-clause-counted : goal.returns-clause-counted
returns-clause-counted c = λ depth n parts found h. child_found depth n parts found h

pub returns-clause-missing : goal.returns-clause-missing
returns-clause-missing c = λ depth n parts h. child_missing depth n parts h
