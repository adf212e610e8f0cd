use Rattle.rev1_fetch.proofs.ArgumentLemmas.{listed_read, one_read}
use Rattle.rev1_fetch.proofs.laws.arguments_are_read.Goals as goal

pub returns-clause-listed : goal.returns-clause-listed
returns-clause-listed c = λ messages items back h k. listed_read messages items back h k

pub returns-clause-single : goal.returns-clause-single
returns-clause-single c = λ messages item back h k some f. one_read messages item back h k some f
