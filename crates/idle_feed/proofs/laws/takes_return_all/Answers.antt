use Rattle.idle_feed.proofs.FeedLemmas.{misses, all_stored}
use Rattle.idle_feed.proofs.laws.takes_return_all.Goals as goal

pub returns-clause-resync : goal.returns-clause-resync
returns-clause-resync c = λ cs. misses cs

pub returns-clause-notes : goal.returns-clause-notes
returns-clause-notes c = λ cs. all_stored cs
