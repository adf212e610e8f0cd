use Rattle.std.proofs.Common.{refl}
use Rattle.server_runtime.proofs.RenameLemmas.{renames_in_turns}
use Rattle.server_runtime.proofs.session_renames.SessionPortRenamePort.rename.Goals as goal

pub returns-in-Some : goal.returns-in-Some
returns-in-Some g c = (refl, renames_in_turns c.args.from.now c.args.to.now c.in-Ok.work c.rename_in_session.result c.in-Ok.ensures c.rename_in_session.ensures)
