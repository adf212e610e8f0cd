use Rattle.imap_node.proofs.ShownLemmas.{listing_showable, rows_showable}
use Rattle.imap_node.proofs.printable.listings_are_showable.Goals as goal

pub returns : goal.returns
returns c = record { listed = listing_showable; viewed = rows_showable }
