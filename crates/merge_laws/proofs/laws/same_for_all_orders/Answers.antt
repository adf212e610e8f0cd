use Rattle.merge_laws.proofs.OneValue.{one_value}
use Rattle.merge_laws.proofs.laws.same_for_all_orders.Goals as goal

pub returns : goal.returns
returns g c = one_value g.R.Op.Caused.id g.R.Op.Caused.clock g.R.Op.Caused.is_sound g.R.Replicated.effect g.met.R.Replicated.commutes
