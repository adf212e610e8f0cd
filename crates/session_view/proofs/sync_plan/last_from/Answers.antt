use Rattle.session_view.proofs.SyncLemmas.{last_given}
use Rattle.session_view.proofs.sync_plan.last_from.Goals as goal

pub returns-in-Some : goal.returns-in-Some
returns-in-Some c = last_given c.args.low c.args.entries.now c.in-Some.entry.now (c.in-Some.ensures {u = tt}).value
