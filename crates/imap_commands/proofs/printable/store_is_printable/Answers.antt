use Rattle.imap_commands.proofs.PrintStoreLemmas.{store_printable}
use Rattle.imap_commands.proofs.printable.store_is_printable.Goals as goal

pub returns : goal.returns
returns c = store_printable
