use Rattle.world_core.proofs.LastingLemmas.{counters_last}
use Rattle.world_core.proofs.RestartLemmas.{ended_after, fair_after, grows_after, is_joined, others_after}
use Rattle.world_core.proofs.laws.restarts_keep_promises.Goals as goal

pub returns-clause-fair : goal.returns-clause-fair
returns-clause-fair c = λ old new name f h. fair_after old new name h f

pub returns-clause-grows : goal.returns-clause-grows
returns-clause-grows c = λ old new name h. grows_after old new name h

pub returns-clause-ended : goal.returns-clause-ended
returns-clause-ended c = λ old new name session h. ended_after old new name h session

pub returns-clause-others : goal.returns-clause-others
returns-clause-others c = λ old new name other session h ne. others_after old new name h other session ne

pub returns-clause-joined : goal.returns-clause-joined
returns-clause-joined c = λ name node e. is_joined name node e

pub returns-clause-lasting : goal.returns-clause-lasting
returns-clause-lasting c = λ starts events outcomes new first h. counters_last starts events outcomes new first h
