use Rattle.imap_commands.proofs.PrintReportLemmas.{list_printable}
use Rattle.imap_commands.proofs.printable.list_is_printable.Goals as goal

pub returns : goal.returns
returns c = list_printable
