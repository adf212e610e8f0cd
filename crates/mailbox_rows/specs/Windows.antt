-- The messages of a listing, whether they are in a list of rows or in a window.

use Rattle.std.specs.Prelude.{List, map}
pub use Rattle.modseq_index.specs.Edges.{IsEdge}
use Rattle.mailbox_rows.specs.ListedMessage.{ListedMessage}
use Rattle.mailbox_rows.specs.RowViews.{owned_message}
use Rattle.mailbox_rows.specs.declared.listing_rows.Source.{Source}
use Rattle.mailbox_rows.specs.declared.listing_rows.Source.TheVariants.{Owned, InWindow}

-- The messages of a source.
abbrev pub source_rows : Source → List ListedMessage
source_rows (Owned rows) = map owned_message rows.items
source_rows (InWindow window) = window
