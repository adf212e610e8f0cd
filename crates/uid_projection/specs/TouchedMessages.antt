-- Which messages operations name, and what operations leave unchanged in a listing.

use Rattle.std.specs.Prelude.{◌≡◌, ◌⊎◌, ℕ, ◌≤◌, Bool, true, false, ◌&&◌, ◌||◌, Option, None}
use Rattle.std.specs.Prelude.{List, ◌++◌}
use Rattle.tags_clocks.specs.declared.id.OpId.{OpId}
use Rattle.merge_laws.specs.Orders.{IsIn}
use Rattle.mailbox_rows.specs.declared.entry.ListingEntry.{ListingEntry}
use Rattle.crdt_ops.specs.declared.op.Op.{Op}
use Rattle.crdt_ops.specs.SortedSets.{is_some_id}
use Rattle.crdt_ops.specs.Tags.{removed_ids}
use Rattle.mailbox_rows.specs.ListedMessage.{ListedMessage}
use Rattle.mailbox_rows.specs.RowViews.{row_of}
use Rattle.uid_projection.specs.declared.first_numbers.Counters.{Counters}
use Rattle.uid_projection.specs.Applied.{IsApplied}
use Rattle.uid_projection.specs.Incarnations.{uidvalidity_of}
use Rattle.uid_projection.specs.UidsAndModSeqs.{kind_names_folder, highest_modseq_of, uidnext_of}
use Rattle.uid_projection.specs.Listing.{listing}
use Rattle.uid_projection.specs.EntryMoves.{AreApart, added_origin, loses}

-- ---- what operations leave unchanged in a listing

-- Below this UIDNEXT, the two listings have the same row under each UID that isn't one of these.
abbrev pub RowsStayExcept : List ℕ → ℕ → List ListedMessage → List ListedMessage → Type 0
RowsStayExcept uids uidnext before later =
    (uid : ℕ) → IsIn uid uids ⊎ ((uidnext ≤ uid) ⊎ (row_of uid later ≡ row_of uid before))

-- No operation of the list is about the folder.
abbrev pub AreAboutOthers : List ℕ → List Op → Type 0
AreAboutOthers folder ops = (op : Op) → IsIn op ops → kind_names_folder folder op.kind ≡ false

-- The folder's listing and numbers are the same after both lists.
pub record IsShownAlike (start : Counters) (folder : List ℕ) (before later : List Op) :
    Type 0 where
  pub rows : listing start folder later ≡ listing start folder before
  pub uidvalidity : uidvalidity_of start folder later ≡ uidvalidity_of start folder before
  pub uidnext : uidnext_of start folder later ≡ uidnext_of start folder before
  pub highest : highest_modseq_of folder later ≡ highest_modseq_of folder before

-- Operations that are all about other folders leave this folder's listing and numbers unchanged.
abbrev pub LeaveOthers : Counters → Type 0
LeaveOthers start =
    (folder : List ℕ) (list ops : List Op) → IsApplied (list ++ ops) → AreAboutOthers folder ops
    → IsShownAlike start folder list (list ++ ops)

-- A listing has no message with the UID UIDNEXT or above.
abbrev pub EndsAtUidnext : Counters → Type 0
EndsAtUidnext start =
    (folder : List ℕ) (list : List Op) (uid : ℕ) → IsApplied list
    → uidnext_of start folder list ≤ uid
    → row_of uid (listing start folder list) ≡ None

-- ---- which messages operations name

-- Whether the operation names the message of this origin: it is about the folder, and removes or
-- adds a version of the message. The function maps the id of a version to its origin.
abbrev pub names_message : (OpId → Option OpId) → List ℕ → OpId → Op → Bool
names_message origin_of folder origin op =
    kind_names_folder folder op.kind
    && (loses origin_of (removed_ids op.kind) origin || is_some_id origin (added_origin op))

-- The new UIDs include the old ones and those of the entries that are named.
pub record AddsUids (is_named : OpId → Bool) (entries : List ListingEntry) (old new : List ℕ) :
    Type 0 where
  pub retained : (uid : ℕ) → IsIn uid old → IsIn uid new
  pub named : AreApart entries → (e : ListingEntry) → IsIn e entries → is_named e.origin ≡ true
      → IsIn e.uid new
