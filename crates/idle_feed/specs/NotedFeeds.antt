-- Feeds that name every difference between a view and its mailbox's listing, and the changes of a
-- view that preserve this.

use Rattle.std.specs.Prelude.{◌≡◌, ◌⊎◌, Bool, true, List}
use Rattle.mailbox_rows.specs.ListedMessage.{ListedMessage}
use Rattle.idle_feed.specs.declared.view_change.ViewChange.{ViewChange}
use Rattle.idle_feed.specs.declared.view_change.ViewChange.TheVariants.{InPlace, Kept, Rebuilt}
use Rattle.idle_feed.specs.Feeds.{Pending}
use Rattle.idle_feed.specs.declared.feed.TakenNotes.{TakenNotes}
use Rattle.idle_feed.specs.declared.feed.TakenNotes.TheVariants.{Changes, Resync}
use Rattle.session_view.specs.NoteChanges.{HasRoomForArrivals, NoteAllChanges, patched_entries}
use Rattle.session_view.specs.Replay.{after_silent}
use Rattle.session_view.specs.Views.{AreRising}
use Rattle.session_view.specs.declared.notes.Note.{Note}
use Rattle.session_view.specs.declared.view_entry.ViewEntry.{ViewEntry}

-- The feed's notes name every row that differs between the view's messages and the listing, or some
-- notes were missed.
abbrev pub NotesAllOf : Pending → List ListedMessage → List ViewEntry → Type 0
NotesAllOf p rows entries = (p.missed ≡ true) ⊎ NoteAllChanges p.notes rows entries

-- The taken notes name every such row, or they are a resync.
abbrev pub IsLeftNoted : TakenNotes → List ListedMessage → List ViewEntry → Type 0
IsLeftNoted (Changes notes) rows entries = NoteAllChanges notes rows entries
IsLeftNoted Resync rows entries = Unit {0}

-- If `whole` says that these notes are complete, they name every such row.
abbrev pub IsLeftBy : List Note → Bool → List ListedMessage → List ViewEntry → Type 0
IsLeftBy left whole rows entries = whole ≡ true → NoteAllChanges left rows entries

-- The view's messages after a change.
abbrev pub entries_after_change : List ViewEntry → ViewChange → List ViewEntry
entries_after_change view (InPlace first patch left whole) =
    patched_entries (after_silent view first.items) patch.gone.items patch.arrivals.items
    patch.flags.items
entries_after_change view (Kept first left) = after_silent view first.items
entries_after_change view (Rebuilt entries left whole) = entries.items

-- The notes that the change leaves, if they are complete, name every row that then differs between
-- the view and the listing.
abbrev pub IsChangeTo : List ListedMessage → List ViewEntry → ViewChange → Type 0
IsChangeTo rows view (InPlace first patch left whole) =
    IsLeftBy left.items whole rows (patched_entries (after_silent view first.items) patch.gone.items
    patch.arrivals.items patch.flags.items)
IsChangeTo rows view (Kept first left) =
    NoteAllChanges left.items rows (after_silent view first.items)
IsChangeTo rows view (Rebuilt entries left whole) = IsLeftBy left.items whole rows entries.items

-- The change can be made without further memory, and the UIDs ascend after it.
abbrev pub CanCommit : List ViewEntry → ViewChange → Type 0
CanCommit view (InPlace first patch left whole) =
    HasRoomForArrivals (after_silent view first.items) patch
    × AreRising 1
    (patched_entries (after_silent view first.items) patch.gone.items patch.arrivals.items
    patch.flags.items)
CanCommit view (Kept first left) = Unit {0}
CanCommit view (Rebuilt entries left whole) = AreRising 1 entries.items
