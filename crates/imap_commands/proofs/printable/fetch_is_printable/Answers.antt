use Rattle.imap_commands.proofs.PrintFetchLemmas.{fetch_printable}
use Rattle.imap_commands.proofs.printable.fetch_is_printable.Goals as goal

pub returns : goal.returns
returns c = fetch_printable
