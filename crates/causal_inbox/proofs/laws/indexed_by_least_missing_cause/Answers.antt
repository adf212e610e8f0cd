use Rattle.causal_inbox.proofs.Beyond.{least_missing, one_replica}
use Rattle.causal_inbox.proofs.laws.indexed_by_least_missing_cause.Goals as goal

pub returns-clause-least : goal.returns-clause-least
returns-clause-least g c = λ applied now o i k w. least_missing g.O.Caused.id g.O.Caused.clock applied o now i k w

pub returns-clause-replica : goal.returns-clause-replica
returns-clause-replica g c = λ applied o i j w m. one_replica g.O.Caused.id g.O.Caused.clock applied o i j w m
