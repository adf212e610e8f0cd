use Rattle.causal_inbox.proofs.Union.{arrival_consistent, releases_consistent, issue_consistent}
use Rattle.causal_inbox.proofs.laws.received_ops_are_consistent.Goals as goal

pub returns-clause-delivery : goal.returns-clause-delivery
returns-clause-delivery g c = λ old new op arrival h k. arrival_consistent g.R.Op.Caused.id g.R.Op.Caused.clock g.F.Follower.exhausts old new op arrival h k

pub returns-clause-release : goal.returns-clause-release
returns-clause-release g c = λ count old new h k. releases_consistent g.R.Op.Caused.id g.R.Op.Caused.clock g.F.Follower.exhausts count old new h k

pub returns-clause-issue : goal.returns-clause-issue
returns-clause-issue g c = λ old new ops issued applied remaining k. issue_consistent g.R.Op.Caused.id g.R.Op.Caused.clock old new ops issued applied remaining k
