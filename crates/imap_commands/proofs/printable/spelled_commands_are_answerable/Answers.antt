use Rattle.imap_commands.proofs.PrintTaggedLemmas.{spelled_answerable}
use Rattle.imap_commands.proofs.printable.spelled_commands_are_answerable.Goals as goal

pub returns : goal.returns
returns c = spelled_answerable
