use Rattle.server_laws.proofs.GrowLemmas.{begins_with_none, grows_by_one, linked_after_forget, starts_stay}
use Rattle.server_laws.proofs.laws.interleavings_grow.Goals as goal

pub returns-clause-begins : goal.returns-clause-begins
returns-clause-begins c = λ starts first. begins_with_none starts first

pub returns-clause-grows : goal.returns-clause-grows
returns-clause-grows c = λ books later interleaving item ran apart w issued. grows_by_one books later interleaving item ran apart w issued

pub returns-clause-forgets : goal.returns-clause-forgets
returns-clause-forgets c = λ books later interleaving ran w. linked_after_forget books later interleaving ran w

pub returns-clause-apart : goal.returns-clause-apart
returns-clause-apart c = λ books later item w. starts_stay books later item w
