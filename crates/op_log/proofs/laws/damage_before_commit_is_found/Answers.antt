use Rattle.op_log.proofs.DamageLemmas.{beyond_later_commit}
use Rattle.op_log.proofs.laws.damage_before_commit_is_found.Goals as goal

pub returns : goal.returns
returns c = beyond_later_commit
