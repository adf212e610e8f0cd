use Rattle.subs_state.proofs.EntryLemmas.{subscriptions_after}
use Rattle.subs_state.proofs.laws.subscriptions_follow_the_set.Goals as goal

pub returns : goal.returns
returns c = subscriptions_after
