-- The rows of a chart's entries.

use Rattle.std.specs.Prelude.{ℕ, ◌==◌, Option, None, Some, List, [], ◌∷◌, if◌then◌else◌}
use Rattle.crdt_ops.specs.declared.op.Op.{Op}
use Rattle.crdt_ops.specs.Sets.{message_of}
use Rattle.mailbox_rows.specs.ListedMessage.{ListedMessage}
use Rattle.mailbox_rows.specs.declared.entry.ListingEntry.{ListingEntry}
use Rattle.uid_projection.specs.UidsAndModSeqs.{has_version}
use Rattle.uid_projection.specs.Listing.{listed_message_with}

-- The row of an entry: the message of its origin after these operations, if the origin has a
-- version.
abbrev pub row_by : List Op → List ℕ → ListingEntry → Option ListedMessage
row_by ops folder e =
    if has_version folder e.origin ops
    then Some (listed_message_with e.uid e.modseq (message_of ops folder e.origin))
    else None

-- The entry with this UID, if any.
abbrev pub entry_with : ℕ → List ListingEntry → Option ListingEntry
entry_with uid [] = None
entry_with uid (e ∷ entries) = if e.uid == uid then Some e else entry_with uid entries
