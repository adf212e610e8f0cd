use Rattle.std.proofs.Common.{rules}
use Rattle.mail_replay.proofs.script_service.declare.Goals as goal

pub returns-clause-ok : goal.returns-clause-ok
returns-clause-ok c = (search rules, (c.in_ok-replica.replica, c.in_ok-replica.ensures {u = tt}, search rules))
