-- Notes of what operations change in a mailbox, made from the mailbox before the operations, and
-- its UIDVALIDITY and UIDNEXT after them.

use Rattle.std.specs.Prelude.{◌≡◌, ◌⊎◌, ℕ, ◌≤◌, ◌<◌, true, List, ◌++◌, Option}
use Rattle.crdt_ops.specs.declared.op.Op.{Op}
use Rattle.merge_laws.specs.Orders.{IsIn}
use Rattle.imap_node.specs.SessionFeeds.{MailboxNotes, NotesNameIn, is_named}
use Rattle.session_view.specs.NoteChanges.{is_noted}
use Rattle.session_view.specs.declared.notes.Note.{Note}
use Rattle.uid_projection.specs.declared.first_numbers.Counters.{Counters}
use Rattle.uid_projection.specs.Applied.{IsApplied}
use Rattle.uid_projection.specs.Incarnations.{uidvalidity_of}
use Rattle.uid_projection.specs.UidsAndModSeqs.{uidnext_of}
use Rattle.uid_projection.specs.Listing.{listing}
use Rattle.uid_projection.specs.TouchedMessages.{RowsStayExcept}

-- A mailbox before operations: the values that are looked up in it then.
pub record MailboxSnapshot : Type 0 where
  pub name : List ℕ
  pub uidvalidity : Option ℕ
  pub uidnext : ℕ
  pub touched : List ℕ

-- `snapshot` has the values of the mailbox `name` before the operations: its UIDVALIDITY, its
-- UIDNEXT, and UIDs below that. As long as the UIDVALIDITY stays, the operations change no rows
-- below UIDNEXT but those with these UIDs.
pub record IsSnapshotOf (start : Counters) (before ops : List Op) (name : List ℕ)
    (snapshot : MailboxSnapshot) : Type 0 where
  pub name_is : snapshot.name ≡ name
  pub uidvalidity : snapshot.uidvalidity ≡ uidvalidity_of start name before
  pub uidnext : snapshot.uidnext ≡ uidnext_of start name before
  pub stay : IsApplied (before ++ ops)
      → uidvalidity_of start name (before ++ ops) ≡ uidvalidity_of start name before
      → RowsStayExcept snapshot.touched snapshot.uidnext (listing start name before)
      (listing start name (before ++ ops))

-- If the UIDVALIDITY didn't change, the notes name each touched UID and each UID from `first` up to
-- `uidnext`; otherwise they name every UID.
abbrev pub NamesTouched : Option ℕ → Option ℕ → ℕ → ℕ → List ℕ → List Note → Type 0
NamesTouched before now first uidnext touched notes =
    (((before ≡ now) × ((uid : ℕ) → IsIn uid touched → is_noted notes uid ≡ true)
    × ((uid : ℕ) → first ≤ uid → uid < uidnext → is_noted notes uid ≡ true))
    ⊎ ((uid : ℕ) → is_noted notes uid ≡ true))

-- Each of these mailboxes has notes that name what the operations change in it.
abbrev pub AreNamed : Counters → List Op → List Op → List MailboxNotes → Type 0
AreNamed start before ops folders =
    (folder : MailboxNotes) → IsIn folder folders
    → NotesNameIn start before (before ++ ops) folder.name folder.notes

-- The mailbox `name` is among the new ones, the old ones still are, and if the notes of the old
-- ones name what the operations change, the notes of the new ones do too.
pub record AreNotesSoFar (start : Counters) (before ops : List Op) (name : List ℕ)
    (old new : List MailboxNotes) : Type 0 where
  pub own : is_named new name ≡ true
  pub still_named : (other : List ℕ) → is_named old other ≡ true → is_named new other ≡ true
  pub named : AreNamed start before ops old → AreNamed start before ops new
