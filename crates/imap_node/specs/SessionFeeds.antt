-- What sessions must still be sent: a feed for each session, and change notes, which say what
-- operations changed in each mailbox.

use Rattle.std.specs.List.{list_any}
use Rattle.std.specs.Prelude.{◌≡◌, ℕ, ◌-◌, Bool, false, List, [], ◌∷◌, slice_index_or}
use Rattle.std.specs.Prelude.{bytes_eq, Option, Some, if◌then◌else◌}
use Rattle.crdt_ops.specs.declared.op.Op.{Op}
use Rattle.idle_feed.specs.Feeds.{FeedState, Pending, missed_pending}
use Rattle.imap_node.specs.Mailboxes.{rows_for}
use Rattle.imap_commands.specs.declared.session.Session.{Session}
use Rattle.imap_node.specs.Replays.{view_at, view_in}
use Rattle.imap_node.specs.Sessions.{Places}
use Rattle.session_view.specs.NoteChanges.{NoteAllChanges, flags_at}
use Rattle.session_view.specs.ViewState.{ViewState, rows_under}
use Rattle.session_view.specs.Views.{AreRising, entries_of}
use Rattle.session_view.specs.declared.notes.Note.{Note}
use Rattle.uid_projection.specs.declared.first_numbers.Counters.{Counters}
use Rattle.uid_projection.specs.Incarnations.{uidvalidity_of}
use Rattle.uid_projection.specs.Listing.{listing}
use Rattle.idle_feed.specs.NotedFeeds.{NotesAllOf}

-- The feed of a session that has none: it missed everything.
abbrev pub missing_feed : FeedState
missing_feed = record { pending = missed_pending; room = 0 }

-- What the session with this number must still be sent.
abbrev pub pending_at : List FeedState → ℕ → Pending
pending_at feeds n = (slice_index_or feeds (n - 1) missing_feed).pending

-- `pending` names every row that differs between the view and its mailbox's listing, or says that
-- some was missed.
abbrev pub IsNotedFor : Counters → List Op → Pending → ViewState → Type 0
IsNotedFor start ops pending view = NotesAllOf pending (rows_for start ops view) view.entries

-- The feed of each session names every row that differs in the session's view, or says that some
-- was missed.
abbrev pub AreAllNoted : Counters → List Op → Places → List FeedState → Type 0
AreAllNoted start ops places feeds =
    (n : ℕ) (view : ViewState)
    → view_at places n ≡ Some view
    → IsNotedFor start ops (pending_at feeds n) view

-- The view agrees with its mailbox's listing in every message.
abbrev pub IsCurrent : Counters → List Op → ViewState → Type 0
IsCurrent start ops view =
    (uid : ℕ) → flags_at uid view.entries ≡ flags_at uid (entries_of (rows_for start ops view))

-- ---- change notes: what operations changed

-- The notes of what operations changed in one mailbox.
pub record MailboxNotes : Type 0 where
  pub name : List ℕ
  pub notes : List Note

-- The notes of the mailbox `name`; none if it isn't listed.
abbrev pub notes_in : List MailboxNotes → List ℕ → List Note
notes_in [] name = []
notes_in (folder ∷ folders) name =
    if bytes_eq folder.name name then folder.notes else notes_in folders name

-- The notes name what differs between two moments in the mailbox `name`, in each of its
-- incarnations.
abbrev pub NotesNameIn : Counters → List Op → List Op → List ℕ → List Note → Type 0
NotesNameIn start before after name notes =
    (uidvalidity : ℕ)
    → NoteAllChanges notes
    (rows_under uidvalidity (uidvalidity_of start name after) (listing start name after))
    (entries_of
    (rows_under uidvalidity (uidvalidity_of start name before) (listing start name before)))

-- The change notes name what differs between two moments in any mailbox.
abbrev pub AreChangeNotes : Counters → List Op → List Op → List MailboxNotes → Type 0
AreChangeNotes start before after changes =
    (name : List ℕ) → NotesNameIn start before after name (notes_in changes name)

-- A session's notes before and after change notes are added: if the old notes name what differed
-- before the operations, the new notes name what differs after them.
pub record IsFeedAfterNotes (changes : List MailboxNotes) (place : Option Session)
    (old new : Pending)
    : Type 0 where
  pub noted : (start : Counters) (before after : List Op) (view : ViewState)
      → AreChangeNotes start before after changes → view_in place ≡ Some view
      → IsNotedFor start before old view
      → IsNotedFor start after new view

-- What a session must still be sent, and what operations changed.
pub record UnsentChanges : Type 0 where
  pub pending : Pending
  pub change_notes : List MailboxNotes

-- A view's mailbox has no notes, neither unsent ones nor any from the operations; the view's UIDs
-- ascend, as any view's do.
pub record IsSettled (unsent : UnsentChanges) (view : ViewState) : Type 0 where
  pub rising : AreRising 1 view.entries
  pub none_missed : unsent.pending.missed ≡ false
  pub none_noted : unsent.pending.notes ≡ []
  pub unchanged : notes_in unsent.change_notes view.name ≡ []

-- The mailbox `name` is listed.
abbrev pub is_named : List MailboxNotes → List ℕ → Bool
is_named folders name = list_any (λ folder. bytes_eq folder.name name) folders
