use Rattle.session_view.proofs.CountLemmas.{equal_counts_suffice}
use Rattle.session_view.proofs.laws.equal_counts_suffice.Goals as goal

pub returns : goal.returns
returns c = λ kind rows view. equal_counts_suffice kind rows view
