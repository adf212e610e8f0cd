-- Views that date from an earlier moment of their mailbox, and inputs whose replies bring a view up
-- to date (RFC 9051, section 2.3.1.1).

use Rattle.std.specs.Prelude.{◌≡◌, ℕ, ◌<◌, Bool, true, false, ◌||◌, List, ◌++◌, Option, Some, None}
use Rattle.crdt_ops.specs.declared.op.Op.{Op}
use Rattle.imap_syntax.specs.declared.command.Command.{Command}
use Rattle.mailbox_rows.specs.ListedMessage.{ListedMessage}
use Rattle.merge_laws.specs.Orders.{IsIn}
use Rattle.session_view.specs.NoteChanges.{uids_of}
use Rattle.session_view.specs.ViewState.{ViewState}
use Rattle.session_view.specs.declared.view_entry.SyncKind.{SyncKind}
use Rattle.session_view.specs.declared.view_entry.SyncKind.TheVariants.{Full, Partial}
use Rattle.imap_node.specs.Commands.{is_selecting, sync_of}
use Rattle.imap_node.specs.Replays.{view_at}
use Rattle.imap_node.specs.Sessions.{Places}
use Rattle.imap_node.specs.declared.input.Input.{Input}
use Rattle.imap_node.specs.declared.input.Input.TheVariants as inputs
use Rattle.uid_projection.specs.declared.first_numbers.Counters.{Counters}
use Rattle.uid_projection.specs.Incarnations.{uidvalidity_of}
use Rattle.uid_projection.specs.UidsAndModSeqs.{uidnext_of}
use Rattle.uid_projection.specs.Listing.{listing}

-- A view dates from an earlier moment of its mailbox's incarnation. As long as that incarnation
-- exists, the view has each message that was listed at that moment, and only UIDs assigned before
-- it (RFC 9051, section 2.3.1.1).
pub record IsOlderView (start : Counters) (ops : List Op) (view : ViewState) : Type 0 where
  pub front : List Op
  pub back : List Op
  pub split : ops ≡ front ++ back
  pub exists : uidvalidity_of start view.name front ≡ Some view.uidvalidity
  pub has : uidvalidity_of start view.name ops ≡ Some view.uidvalidity → (row : ListedMessage)
      → IsIn row (listing start view.name front)
      → IsIn row.uid (uids_of view.entries)
  pub below : uidvalidity_of start view.name ops ≡ Some view.uidvalidity → (uid : ℕ)
      → IsIn uid (uids_of view.entries)
      → uid < uidnext_of start view.name front

-- The view of each session dates from an earlier moment.
abbrev pub AreOlderViews : Counters → List Op → Places → Type 0
AreOlderViews start ops places =
    (n : ℕ) (view : ViewState) → view_at places n ≡ Some view → IsOlderView start ops view

-- A full sync.
abbrev pub is_full : Option SyncKind → Bool
is_full None = false
is_full (Some Full) = true
is_full (Some Partial) = false

-- The commands and the inputs whose replies leave nothing unsent: those with a full sync, and
-- SELECT and EXAMINE, which show the whole mailbox.
abbrev pub command_updates_view : Command → Bool
command_updates_view command = is_full (sync_of command) || is_selecting command

abbrev pub updates_view : Input → Bool
updates_view (inputs.Command moment tagged) = command_updates_view tagged.command
updates_view (inputs.Line line) = true
updates_view inputs.Poll = true
