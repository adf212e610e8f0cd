use Rattle.imap_query.proofs.ListingLemmas.{one_listing}
use Rattle.imap_query.proofs.list_entries.one_list.Goals as goal

pub returns : goal.returns
returns c = one_listing
