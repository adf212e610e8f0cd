use Rattle.imap_commands.proofs.PrintSearchLemmas.{search_printable}
use Rattle.imap_commands.proofs.printable.search_is_printable.Goals as goal

pub returns : goal.returns
returns c = search_printable
