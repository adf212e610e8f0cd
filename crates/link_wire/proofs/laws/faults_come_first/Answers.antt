use Rattle.link_wire.proofs.FrameReadLemmas.{fault_by_given}
use Rattle.link_wire.proofs.FrameRunLemmas.{given_by_fault}
use Rattle.link_wire.proofs.laws.faults_come_first.Goals as goal

pub returns-clause-at : goal.returns-clause-at
returns-clause-at c = fault_by_given

pub returns-clause-converse : goal.returns-clause-converse
returns-clause-converse c = given_by_fault
