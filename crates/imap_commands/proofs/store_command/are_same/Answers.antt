use Rattle.session_view.proofs.SyncLemmas.{same_flags_is}
use Rattle.imap_commands.proofs.store_command.are_same.Goals as goal

pub returns : goal.returns
returns c = same_flags_is c.args.flags.now c.args.others.now c.same.result c.same.ensures
