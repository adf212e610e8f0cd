use Rattle.imap_commands.proofs.NameLemmas.{lawful_name_is}
use Rattle.imap_commands.proofs.laws.lawful_name_is.Goals as goal

pub returns : goal.returns
returns c = lawful_name_is
