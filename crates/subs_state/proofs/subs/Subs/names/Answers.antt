use Rattle.subs_state.specs.Table.{subscriptions_of}
use Rattle.subs_state.proofs.EntryLemmas.{names_by_set}
use Rattle.subs_state.proofs.subs.Subs.names.Goals as goal

pub returns-clause-set : goal.returns-clause-set
returns-clause-set c = λ ops m. names_by_set (subscriptions_of c.args.self.now) ops c.in_ok-names.names.items m c.in_ok-names.ensures
