use Rattle.std.proofs.Common.{Bor}
use Rattle.std.specs.Option.{option_map}
use Rattle.replica_links.proofs.TakenLemmas.{taken_by}
use Rattle.replica_links.proofs.replica_taker.deliver_in.Goals as goal
use Rattle.replica_lock.specs.declared.outcome.Outcome.{Outcome}

pub returns-in-Ok : goal.returns-in-Ok
returns-in-Ok g c =
    taken_by c.args.pass.now c.args.op c.intake_of_last.result c.deliver.new.pass (option_map (λ (o : Bor Outcome). o.now) c.last.result) c.in-Ok.ensures.called c.last.ensures c.intake_of_last.ensures
