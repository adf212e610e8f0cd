use Rattle.server_laws.proofs.RestoredGrowLemmas.{restored_grows}
use Rattle.server_laws.proofs.RestoredLemmas.{restored_begins, restored_headline, restored_run}
use Rattle.server_laws.proofs.laws.restored_books_continue_runs.Goals as goal

pub returns-clause-begins : goal.returns-clause-begins
returns-clause-begins c = λ name ops causal lasting. restored_begins name ops causal lasting

pub returns-clause-grows : goal.returns-clause-grows
returns-clause-grows c = λ crashed books later interleaving item given apart w known. restored_grows crashed books later item w interleaving given apart known

pub returns-clause-runs : goal.returns-clause-runs
returns-clause-runs c = λ starts before answers crashed books interleaving left restored. restored_run starts before answers crashed left books interleaving restored

pub returns-clause-headline : goal.returns-clause-headline
returns-clause-headline c = λ books starts before answers crashed interleaving left restored. restored_headline starts before answers crashed left books interleaving restored
