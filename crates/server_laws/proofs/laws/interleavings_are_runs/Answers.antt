use Rattle.server_laws.proofs.BookLemmas.{books_fair, books_headline, books_issue, books_run, same_by_clocks, at_own_name}
use Rattle.server_laws.proofs.RunLemmas.{interleaving_runs}
use Rattle.server_laws.proofs.laws.interleavings_are_runs.Goals as goal

pub returns-clause-from_any_world : goal.returns-clause-from_any_world
returns-clause-from_any_world c = λ old new interleaving fair lead link. interleaving_runs interleaving old new fair lead link

pub returns-clause-runs : goal.returns-clause-runs
returns-clause-runs c = λ books interleaving ran. books_run books interleaving ran

pub returns-clause-headline : goal.returns-clause-headline
returns-clause-headline c = λ books interleaving ran. books_headline books interleaving ran

pub returns-clause-fair : goal.returns-clause-fair
returns-clause-fair c = λ books interleaving ran. books_fair books interleaving ran

pub returns-clause-issued : goal.returns-clause-issued
returns-clause-issued c = λ books interleaving ran op w. books_issue books interleaving ran op w

pub returns-clause-own_place : goal.returns-clause-own_place
returns-clause-own_place c = λ books apart book i. at_own_name books apart book i

pub returns-clause-clocks : goal.returns-clause-clocks
returns-clause-clocks c = λ books interleaving ran apart one other i j clock d e. same_by_clocks books interleaving ran apart one other i j clock d e
