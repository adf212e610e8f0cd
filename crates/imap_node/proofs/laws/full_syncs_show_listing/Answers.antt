use Rattle.imap_node.proofs.OlderViewLemmas.{inputs_show}
use Rattle.imap_node.proofs.laws.full_syncs_show_listing.Goals as goal

pub returns : goal.returns
returns c = inputs_show
