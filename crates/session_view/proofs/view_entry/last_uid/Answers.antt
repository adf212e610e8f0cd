use Rattle.session_view.proofs.SyncLemmas.{last_given}
use Rattle.session_view.proofs.view_entry.last_uid.Goals as goal

pub returns-in-Some : goal.returns-in-Some
returns-in-Some c = last_given 0 c.args.view.now.items c.in-Some.entry.now (c.in-Some.ensures {u = tt}).value
