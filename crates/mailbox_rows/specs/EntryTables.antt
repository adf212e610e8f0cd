-- Tables of entries as contracts see them: the entries, the room for edits, and the latest
-- mod-sequence that was given to one.

use Rattle.std.specs.Prelude.{ℕ, ◌*◌, ◌≤◌, List}
use Rattle.mailbox_rows.specs.declared.entry.ListingEntry.{ListingEntry}

-- The entries in order, how many further ones and how many new mod-sequences need no more memory,
-- and the greatest mod-sequence in the index, which no entry exceeds; 0 if the index is empty.
pub record TableState : Type 0 where
  pub entries : List ListingEntry
  pub room : ℕ
  pub modseq_room : ℕ
  pub latest : ℕ

-- The entries in order; how many pieces of a list, how many ids and how many new mod-sequences need
-- no more memory; and the greatest mod-sequence that an edit gave, 0 if none did.
pub record OverlayState : Type 0 where
  pub entries : List ListingEntry
  pub places : ℕ
  pub ids : ℕ
  pub modseq_room : ℕ
  pub latest : ℕ

-- There is room for this number of edits.
pub record HasEdits (o : OverlayState) (edits : ℕ) : Type 0 where
  pub places : 2 * edits ≤ o.places
  pub ids : edits ≤ o.ids
  pub modseqs : edits ≤ o.modseq_room
