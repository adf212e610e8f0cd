use Rattle.causal_inbox.proofs.Closure.{least_if_nothing_stalls, same_if_nothing_stalls}
use Rattle.causal_inbox.proofs.laws.applied_ops_are_the_least_set.Goals as goal

pub returns-clause-least : goal.returns-clause-least
returns-clause-least g c = λ s k n. least_if_nothing_stalls g.R.Op.Caused.id g.R.Op.Caused.clock s k n

pub returns-clause-one : goal.returns-clause-one
returns-clause-one g c = λ s t same k n m q. same_if_nothing_stalls g.R.Op.Caused.id g.R.Op.Caused.clock s t same k n m q
