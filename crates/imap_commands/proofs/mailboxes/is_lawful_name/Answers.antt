use Rattle.imap_commands.proofs.NameLemmas.{lawful_by}
use Rattle.imap_commands.proofs.mailboxes.is_lawful_name.Goals as goal

pub returns : goal.returns
returns c = lawful_by c.args.name.now c.is_lawful.result c.is_lawful.ensures
