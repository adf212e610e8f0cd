use Rattle.server_laws.proofs.LinkLemmas.{issued_or_delivered, issued_if_known}
use Rattle.server_laws.proofs.laws.lists_may_be_passed_on.Goals as goal

pub returns-clause-lists : goal.returns-clause-lists
returns-clause-lists c = λ book entries has op i. issued_or_delivered book entries has op i

pub returns-clause-linked : goal.returns-clause-linked
returns-clause-linked c = λ interleaving known. issued_if_known interleaving known
