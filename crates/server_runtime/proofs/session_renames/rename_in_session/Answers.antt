use Rattle.server_runtime.proofs.RenameLemmas.{takes_turns}
use Rattle.server_runtime.proofs.session_renames.rename_in_session.Goals as goal

pub returns : goal.returns
returns g c =
    takes_turns c.args.work c.rename_all-end.new.work c.open_second.new.pass c.rename_all-end.new.pass c.rename_all-end.ensures.turns.0 c.rename_all-end.result c.rename_all-end.ensures.turns.1 c.rename_all-end.ensures.whole
