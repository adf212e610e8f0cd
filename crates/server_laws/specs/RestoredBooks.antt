-- Replicas that were restored with the lists that crashes left of one run: where their stories
-- begin, how these continue that run, and what holds of all of it.

use Rattle.std.specs.Prelude.{◌≡◌, ◌⊎◌, List, [], ◌∷◌, ◌++◌, map}
use Rattle.crdt_ops.specs.declared.op.Op.{Op}
use Rattle.imap_node.specs.Nodes.{NodeState, unused_node}
use Rattle.merge_laws.specs.Orders.{IsIn}
use Rattle.replica_lock.specs.Histories.{BookState}
use Rattle.replica_lock.specs.JoinedBook.{applied_entry}
use Rattle.replica_lock.specs.declared.book.JournalEntry.{JournalEntry}
use Rattle.replica_lock.specs.declared.event.BookEvent.TheVariants.{Deliver}
use Rattle.server_laws.specs.BookWorlds.{current_world}
use Rattle.server_laws.specs.Interleavings.{IsIssuedAmong, IsWholeHistory, ReplicaEntry}
use Rattle.server_laws.specs.Interleavings.{entries_of_replica}
use Rattle.server_laws.specs.WorldEvents.{event_of, outcome_of}
use Rattle.uid_projection.specs.declared.first_numbers.Counters.{Counters}
use Rattle.world_core.specs.Headline.{Headline}
use Rattle.world_core.specs.Replicas.{nodes_by_name}
use Rattle.world_core.specs.Settlement.{AreNamedApart}
use Rattle.world_core.specs.Steps.{Runs}
use Rattle.world_core.specs.Worlds.{AreFromOne}
use Rattle.world_core.specs.declared.event.Event.{Event}
use Rattle.world_core.specs.declared.event.Event.TheVariants as events
use Rattle.world_core.specs.declared.event.Outcome.{Outcome}
use Rattle.world_core.specs.declared.event.Outcome.TheVariants.{Restarted}

-- ---- the run that crashes ended

-- These are the replicas at the end of a run that began with new replicas. A crash leaves each with
-- its list: what a log lost of a list was shown to nobody, so that the run is one without it.
pub record AreLeftByRun (starts : List Counters) (events : List Event) (outcomes : List Outcome)
    (crashed : List NodeState) : Type 0 where
  pub from_one : AreFromOne starts
  pub run : Runs (nodes_by_name (map unused_node starts)) events outcomes (nodes_by_name crashed)
  pub apart : AreNamedApart crashed

-- Each of the replicas starts again.
abbrev pub restart_of : NodeState → Event
restart_of node = events.Restart node.start.replica

abbrev pub restart_outcome : NodeState → Outcome
restart_outcome node = Restarted

-- ---- the histories since then

-- The book was restored with the node's first numbers and list: a whole history of the book
-- delivers each operation of that list, in its order, and continues with these entries.
pub record IsHistorySince (node : NodeState) (book : BookState) (entries : List JournalEntry) :
    Type 0 where
  pub start : book.node.start ≡ node.start
  pub whole : IsWholeHistory book (map applied_entry node.applied ++ entries)

-- Each of the books was restored with the list of the replica at the same place, and the
-- interleaving has the entries made since then.
abbrev pub HaveHistoriesSince : List NodeState → List ReplicaEntry → List BookState → Type 0
HaveHistoriesSince [] interleaving [] = Unit {0}
HaveHistoriesSince (node ∷ nodes) interleaving (book ∷ books) =
    IsHistorySince node book (entries_of_replica interleaving book.node.start.replica)
    × HaveHistoriesSince nodes interleaving books
HaveHistoriesSince _ interleaving _ = ⊥

-- The operation is in the list with which a replica was restored, or one of the entries issued it.
abbrev pub IsKnownOrIssued : List NodeState → List ReplicaEntry → Op → Type 0
IsKnownOrIssued crashed interleaving op =
    ((node : NodeState) × IsIn node crashed × IsIn op node.applied)
    ⊎ IsIssuedAmong interleaving op

-- Each delivered operation is in one of these lists, or was issued by an earlier entry.
abbrev pub AreKnownOrIssuedBeforeDelivery : List NodeState → List ReplicaEntry → Type 0
AreKnownOrIssuedBeforeDelivery crashed interleaving =
    (front : List ReplicaEntry) (item : ReplicaEntry) (back : List ReplicaEntry) (op : Op)
    → interleaving ≡ front ++ item ∷ back
    → item.entry.event ≡ Deliver op
    → IsKnownOrIssued crashed front op

-- An interleaving of what happened at restored books since they were restored.
pub record IsRestoredInterleaving (crashed : List NodeState) (books : List BookState)
    (interleaving : List ReplicaEntry) : Type 0 where
  pub histories : HaveHistoriesSince crashed interleaving books
  pub only : (item : ReplicaEntry) → IsIn item interleaving
      → (book : BookState) × IsIn book books × (book.node.start.replica ≡ item.replica)
  pub linked : AreKnownOrIssuedBeforeDelivery crashed interleaving

-- The headline holds through crashes: of the run that they ended, of the restart of each replica,
-- and of each interleaving of what happened since, as one sequence.
abbrev pub KeepTheHeadlineThroughRestarts : List BookState → Type 0
KeepTheHeadlineThroughRestarts books =
    (starts : List Counters) (before : List Event) (answers : List Outcome)
    (crashed : List NodeState) (interleaving : List ReplicaEntry)
    → AreLeftByRun starts before answers crashed
    → IsRestoredInterleaving crashed books interleaving
    → Headline (nodes_by_name (map unused_node starts))
    (before ++ (map restart_of crashed ++ map event_of interleaving))
    (answers ++ (map restart_outcome crashed ++ map outcome_of interleaving))
    (current_world books)
