use Rattle.log_dump.proofs.EntryOrderLemmas.{causal_ops}
use Rattle.log_dump.proofs.laws.log_dumps_are_causal.Goals as goal

pub returns : goal.returns
returns c = λ replica entries h. causal_ops replica entries h
