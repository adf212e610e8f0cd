-- The views of sessions at each replica, and how their answers, replayed, give them.

use Rattle.std.specs.Prelude.{◌≡◌, ℕ, true, List, [], ◌∷◌, Option, Some, None}
use Rattle.imap_node.specs.OlderViews.{updates_view}
use Rattle.imap_node.specs.Mailboxes.{rows_for}
use Rattle.imap_node.specs.Nodes.{NodeState}
use Rattle.imap_node.specs.Replays.{view_at, view_after_input}
use Rattle.imap_node.specs.declared.input.Input.{Input}
use Rattle.imap_node.specs.declared.input.Input.TheVariants as inputs
use Rattle.imap_node.specs.declared.reply.Reply.{Reply}
use Rattle.imap_node.specs.declared.reply.Reply.TheVariants.{Done, Refused}
use Rattle.session_view.specs.ViewState.{ViewState}
use Rattle.session_view.specs.Views.{AreRising, entries_of}
use Rattle.world_core.specs.declared.event.Event.{Event}
use Rattle.world_core.specs.declared.event.Event.TheVariants as events
use Rattle.world_core.specs.declared.event.Outcome.{Outcome}
use Rattle.world_core.specs.declared.event.Outcome.TheVariants.{Replied, Restarted}
use Rattle.world_core.specs.Replicas.{IsAt, Replicas}

-- ---- views of sessions

abbrev pub view_at_node : Option NodeState → ℕ → Option ViewState
view_at_node None n = None
view_at_node (Some node) n = view_at node.sessions n

-- The view of the session with this number at this replica; `None` if it isn't open, or has no
-- mailbox selected.
abbrev pub session_view_at : Replicas → ℕ → ℕ → Option ViewState
session_view_at replicas name n = view_at_node (replicas name) n

-- The UIDs in each session's view ascend strictly.
abbrev pub SessionViewsAscend : Replicas → Type 0
SessionViewsAscend replicas =
    (name n : ℕ) (own_view : ViewState)
    → session_view_at replicas name n ≡ Some own_view
    → AreRising 1 own_view.entries

-- ---- what events do to views

-- A session's answers, replayed, give its view.
abbrev pub AnswersReplayTo : Replicas → ℕ → ℕ → Input → Outcome → Replicas → Type 0
AnswersReplayTo old name n input (Replied reply) new =
    (node : NodeState) → IsAt new name node
    → session_view_at new name n
    ≡ view_after_input node.start node.applied (session_view_at old name n) input reply
AnswersReplayTo old name n input _ new = session_view_at new name n ≡ session_view_at old name n

-- A restart ends each session of the replica. If it is refused or passed over, their views stay.
abbrev pub EndsSessions : Replicas → ℕ → Outcome → Replicas → Type 0
EndsSessions old name Restarted new = (n : ℕ) → session_view_at new name n ≡ None
EndsSessions old name _ new = (n : ℕ) → session_view_at new name n ≡ session_view_at old name n

abbrev pub AnswersReplay : Replicas → Event → Outcome → Replicas → Type 0
AnswersReplay old (events.Command at session moment tagged) outcome new =
    AnswersReplayTo old at session (inputs.Command moment tagged) outcome new
AnswersReplay old (events.IdleLine at session line) outcome new =
    AnswersReplayTo old at session (inputs.Line line) outcome new
AnswersReplay old (events.Poll at session) outcome new =
    AnswersReplayTo old at session inputs.Poll outcome new
AnswersReplay old (events.Restart at) outcome new = EndsSessions old at outcome new
AnswersReplay old _ outcome new = Unit {0}

-- After a full sync, and after a SELECT or an EXAMINE, a session's view is its mailbox's listing,
-- flags included.
abbrev pub FullSyncShowsListingBy : ℕ → ℕ → Input → Reply → Replicas → Type 0
FullSyncShowsListingBy name n input (Done answers silent issued) new =
    updates_view input ≡ true
    → (node : NodeState) (view : ViewState) → IsAt new name node
    → view_at node.sessions n ≡ Some view
    → view.entries ≡ entries_of (rows_for node.start node.applied view)
FullSyncShowsListingBy name n input (Refused why closed) new = Unit {0}

abbrev pub FullSyncShowsListingTo : ℕ → ℕ → Input → Outcome → Replicas → Type 0
FullSyncShowsListingTo name n input (Replied reply) new =
    FullSyncShowsListingBy name n input reply new
FullSyncShowsListingTo name n input _ new = Unit {0}

abbrev pub FullSyncShowsListing : Event → Outcome → Replicas → Type 0
FullSyncShowsListing (events.Command at session moment tagged) outcome new =
    FullSyncShowsListingTo at session (inputs.Command moment tagged) outcome new
FullSyncShowsListing (events.IdleLine at session line) outcome new =
    FullSyncShowsListingTo at session (inputs.Line line) outcome new
FullSyncShowsListing (events.Poll at session) outcome new =
    FullSyncShowsListingTo at session inputs.Poll outcome new
FullSyncShowsListing _ outcome new = Unit {0}

-- The event is this session's, or closes it, or restarts its replica.
abbrev pub IsOfSession : Event → ℕ → ℕ → Type 0
IsOfSession (events.Command at session moment tagged) name n = (name ≡ at) × (n ≡ session)
IsOfSession (events.IdleLine at session line) name n = (name ≡ at) × (n ≡ session)
IsOfSession (events.Poll at session) name n = (name ≡ at) × (n ≡ session)
IsOfSession (events.Close at session) name n = (name ≡ at) × (n ≡ session)
IsOfSession (events.Restart at) name n = name ≡ at
IsOfSession _ name n = ⊥

-- The view of the event's session is its view before with the answers replayed, and its mailbox's
-- listing after a full sync; after a restart no session of the replica has a view; the view of
-- every other session stays as it was.
pub record Replays (old : Replicas) (event : Event) (outcome : Outcome) (new : Replicas) :
    Type 0 where
  pub replayed : AnswersReplay old event outcome new
  pub shown : FullSyncShowsListing event outcome new
  pub others : (name n : ℕ)
      → ¬ IsOfSession event name n
      → session_view_at new name n ≡ session_view_at old name n

-- `Replays` holds of each event of a run.
abbrev pub AllReplay : Replicas → List Event → List Outcome → List Replicas → Type 0
AllReplay old [] [] [] = Unit {0}
AllReplay old (event ∷ events) (outcome ∷ outcomes) (next ∷ moments) =
    Replays old event outcome next × AllReplay next events outcomes moments
AllReplay old _ _ _ = ⊥
