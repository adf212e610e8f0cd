use Rattle.world_core.proofs.JoinLemmas.{place_is_named}
use Rattle.world_core.proofs.world_join.is_taken.Goals as goal

pub returns-in-Some-clause-yes : goal.returns-in-Some-clause-yes
returns-in-Some-clause-yes c = λ t. place_is_named c.args.nodes.now c.args.name c.in-Some.field-0 c.in-Some.ensures
