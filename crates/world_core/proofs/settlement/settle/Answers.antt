use Rattle.world_core.specs.Replicas.{all_without_room}
use Rattle.world_core.proofs.ExchangeLemmas.{settles}
use Rattle.world_core.proofs.TakeLemmas.{all_take_own}
use Rattle.world_core.proofs.settlement.settle.Goals as goal

pub returns-in-Some-clause-takes : goal.returns-in-Some-clause-takes
returns-in-Some-clause-takes c = all_take_own (all_without_room c.args.nodes.now)

pub returns-in-None-clause-settles : goal.returns-in-None-clause-settles
returns-in-None-clause-settles c = settles c.exchange.result (all_without_room c.args.nodes.now) (all_without_room c.exchange.new.nodes) c.in-None.ensures c.exchange.ensures.ok c.exchange.ensures.short
