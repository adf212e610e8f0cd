use Rattle.imap_commands.proofs.ListedKeywordLemmas.{one_set}
use Rattle.imap_commands.proofs.laws.one_set_of_keywords.Goals as goal

pub returns : goal.returns
returns c = one_set
