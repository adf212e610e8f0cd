use Rattle.imap_node.proofs.IssueLemmas.{issues_of_responds}
use Rattle.imap_node.proofs.laws.issued_are_sound_and_new.Goals as goal

pub returns : goal.returns
returns c = issues_of_responds
