use Rattle.subs_state.specs.Table.{subscriptions_of}
use Rattle.subs_state.proofs.EntryLemmas.{tags_by_entries, tags_by_set}
use Rattle.subs_state.proofs.subs.Subs.tags.Goals as goal

pub returns-clause-contents : goal.returns-clause-contents
returns-clause-contents c = tags_by_entries c.args.self.now.tags.entries c.args.name.now c.in_ok-ids.ids c.in_ok-ids.ensures

pub returns-clause-set : goal.returns-clause-set
returns-clause-set c = λ ops m. tags_by_set (subscriptions_of c.args.self.now) ops c.args.name.now c.in_ok-ids.ids m (returns-clause-contents c)
