use Rattle.uid_projection.proofs.TouchedMessagesLemmas.{ends_at_uidnext}
use Rattle.uid_projection.proofs.laws.listings_end_at_uidnext.Goals as goal

pub returns : goal.returns
returns c = ends_at_uidnext
