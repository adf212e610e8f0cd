use Rattle.imap_commands.proofs.PrintCopyLemmas.{append_printable}
use Rattle.imap_commands.proofs.printable.append_is_printable.Goals as goal

pub returns : goal.returns
returns c = append_printable
