use Rattle.imap_commands.proofs.PrintReportLemmas.{status_printable}
use Rattle.imap_commands.proofs.printable.status_is_printable.Goals as goal

pub returns : goal.returns
returns c = status_printable
