use Rattle.rev1_fetch.proofs.DividedLemmas.{items_divided, items_joined}
use Rattle.rev1_fetch.proofs.laws.items_are_divided.Goals as goal

pub returns-clause-joined : goal.returns-clause-joined
returns-clause-joined c = λ text. items_joined text

pub returns-clause-read : goal.returns-clause-read
returns-clause-read c = λ items h. items_divided items h
