use Rattle.std.proofs.lemmas.Result.{on_ok_weaker}
use Rattle.uid_projection.proofs.NamedLemmas.{adds_entry, adds_lacking}
use Rattle.uid_projection.proofs.touched_messages.push_entry.Goals as goal

pub returns-in-Some : goal.returns-in-Some
returns-in-Some c = on_ok_weaker c.push_at.result (adds_entry c.args.origin.now c.args.entries.now.entries c.in-Some.place _ _ c.in-Some.ensures) c.push_at.ensures

pub returns-in-None : goal.returns-in-None
returns-in-None c = adds_lacking c.args.origin.now c.args.entries.now.entries c.args.uids.now.items c.in-None.ensures
