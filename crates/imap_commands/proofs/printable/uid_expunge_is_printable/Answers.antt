use Rattle.imap_commands.proofs.PrintStoreLemmas.{uid_expunge_printable}
use Rattle.imap_commands.proofs.printable.uid_expunge_is_printable.Goals as goal

pub returns : goal.returns
returns c = uid_expunge_printable
