use Rattle.imap_commands.proofs.PrintSyncLemmas.{sync_printable}
use Rattle.imap_commands.proofs.printable.sync_is_printable.Goals as goal

pub returns : goal.returns
returns c = sync_printable
