-- The change of a session by an input, and what its feed must name afterwards.

use Rattle.std.specs.Prelude.{◌≡◌, Bool, true, List, Option, Some, None}
use Rattle.crdt_ops.specs.declared.op.Op.{Op}
use Rattle.imap_commands.specs.declared.session.Session.{Session}
use Rattle.imap_commands.specs.declared.session.State.{State}
use Rattle.imap_commands.specs.declared.session.State.TheVariants.{Selected}
use Rattle.imap_node.specs.declared.session_change.SessionChange.{SessionChange}
use Rattle.imap_node.specs.declared.session_change.StateChange.{StateChange}
use Rattle.imap_node.specs.declared.session_change.StateChange.TheVariants.{Moves, Stays}
use Rattle.imap_node.specs.SessionFeeds.{IsCurrent}
use Rattle.imap_node.specs.Mailboxes.{rows_for}
use Rattle.imap_node.specs.Replays.{view_of}
use Rattle.session_view.specs.ViewState.{ViewState}
use Rattle.session_view.specs.declared.view_entry.ViewEntry.{ViewEntry}
use Rattle.uid_projection.specs.declared.first_numbers.Counters.{Counters}
use Rattle.idle_feed.specs.NotedFeeds.{CanCommit, IsChangeTo, entries_after_change}
use Rattle.idle_feed.specs.declared.view_change.ViewChange.{ViewChange}

-- The messages of a view after a change, if there is one.
abbrev pub entries_with : List ViewEntry → Option ViewChange → List ViewEntry
entries_with view None = view
entries_with view (Some change) = entries_after_change view change

-- A state with its view changed.
abbrev pub state_with : State → Option ViewChange → State
state_with (Selected view read_only) change =
    Selected (record view { entries = entries_with view.entries change }) read_only
state_with state change = state

-- A state after a change.
abbrev pub changed_state : State → StateChange → State
changed_state state (Moves next all) = next
changed_state state (Stays change) = state_with state change

-- A session after a change.
abbrev pub changed_session : Session → SessionChange → Session
changed_session session update =
    record {
      state = changed_state session.state update.state_change;
      condstore = update.condstore;
      idling = update.idling;
    }

-- The change of a view, if there is one, and of a state, can be made without further memory.
abbrev pub CanChangeView : State → Option ViewChange → Type 0
CanChangeView (Selected view read_only) (Some change) = CanCommit view.entries change
CanChangeView state change = Unit {0}

abbrev pub CanChangeState : State → StateChange → Type 0
CanChangeState state (Moves next all) = Unit {0}
CanChangeState state (Stays change) = CanChangeView state change

-- The notes that a change of a view leaves name all that is still unsent after these operations, if
-- the change says so.
abbrev pub ChangeLeaves : Counters → List Op → State → Option ViewChange → Type 0
ChangeLeaves start ops (Selected view read_only) (Some change) =
    IsChangeTo (rows_for start ops view) view.entries change
ChangeLeaves start ops state change = Unit {0}

-- If `all` is set, the new state's view shows all messages that its mailbox has after these
-- operations.
abbrev pub ShowsAll : Counters → List Op → State → Bool → Type 0
ShowsAll start ops state all =
    all ≡ true → (view : ViewState) → view_of state ≡ Some view → IsCurrent start ops view

abbrev pub LeavesNoted : Counters → List Op → State → StateChange → Type 0
LeavesNoted start ops state (Moves next all) = ShowsAll start ops next all
LeavesNoted start ops state (Stays change) = ChangeLeaves start ops state change

-- A session can make this change after these operations.
pub record CanChangeSession (start : Counters) (ops : List Op) (state : State)
    (state_change : StateChange) : Type 0 where
  pub make : CanChangeState state state_change
  pub leaves : LeavesNoted start ops state state_change
