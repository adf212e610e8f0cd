use Rattle.imap_commands.proofs.PrintSelectLemmas.{select_printable}
use Rattle.imap_commands.proofs.printable.select_is_printable.Goals as goal

pub returns : goal.returns
returns c = select_printable
