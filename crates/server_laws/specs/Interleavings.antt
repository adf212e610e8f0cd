-- The events at several replicas as one sequence: an interleaving of their whole histories, of
-- which the journals that their locks guard are the ends. Nothing here speaks of a world.

use Rattle.std.specs.Prelude.{◌≡◌, ◌⊎◌, ℕ, ◌≤◌, ◌==◌, List, [], ◌∷◌, ◌++◌, Option, None, Some}
use Rattle.std.specs.Prelude.{if◌then◌else◌}
use Rattle.crdt_ops.specs.declared.op.Op.{Op}
use Rattle.imap_node.specs.Issues.{issued_by}
use Rattle.imap_node.specs.Nodes.{NodeState, unused_node}
use Rattle.merge_laws.specs.Orders.{IsIn}
use Rattle.replica_lock.specs.Histories.{BookState, HasPast, IsPast, LeadsTo, book_after_forget}
use Rattle.replica_lock.specs.Steps.{IsStep}
use Rattle.replica_lock.specs.declared.book.JournalEntry.{JournalEntry}
use Rattle.replica_lock.specs.declared.event.BookEvent.TheVariants.{Deliver}
use Rattle.replica_lock.specs.declared.outcome.Outcome.{Outcome}
use Rattle.replica_lock.specs.declared.outcome.Outcome.TheVariants.{Replied}
use Rattle.uid_projection.specs.declared.first_numbers.Counters.{Counters}

-- An entry of the journal of the replica of this name.
pub record ReplicaEntry : Type 0 where
  pub replica : ℕ
  pub entry : JournalEntry

-- The entries of one replica, in their order.
abbrev pub entries_of_replica : List ReplicaEntry → ℕ → List JournalEntry
entries_of_replica [] name = []
entries_of_replica (item ∷ interleaving) name =
    if name == item.replica then item.entry ∷ entries_of_replica interleaving name
    else entries_of_replica interleaving name

-- These entries are a whole history of the book: entries that it may have forgotten, and then its
-- journal.
abbrev pub IsWholeHistory : BookState → List JournalEntry → Type 0
IsWholeHistory book entries =
    (past : List JournalEntry) × IsPast book past × (entries ≡ past ++ book.journal)

-- The interleaving has the entries of a whole history of each of the books, in their order, and no
-- others.
pub record IsInterleavingOf (books : List BookState) (interleaving : List ReplicaEntry) :
    Type 0 where
  pub whole : (book : BookState) → IsIn book books
      → IsWholeHistory book (entries_of_replica interleaving book.node.start.replica)
  pub only : (item : ReplicaEntry) → IsIn item interleaving
      → (book : BookState) × IsIn book books × (book.node.start.replica ≡ item.replica)

-- ---- the premise on links

-- The operations that an event with this outcome issued.
abbrev pub ops_of_outcome : Outcome → List Op
ops_of_outcome (Replied reply) = issued_by reply
ops_of_outcome _ = []

-- One of the entries issued the operation.
abbrev pub IsIssuedAmong : List ReplicaEntry → Op → Type 0
IsIssuedAmong interleaving op =
    (item : ReplicaEntry) × IsIn item interleaving × IsIn op (ops_of_outcome item.entry.outcome)

-- Each delivered operation was issued by an earlier entry.
abbrev pub AreIssuedBeforeDelivery : List ReplicaEntry → Type 0
AreIssuedBeforeDelivery interleaving =
    (front : List ReplicaEntry) (item : ReplicaEntry) (back : List ReplicaEntry) (op : Op)
    → interleaving ≡ front ++ item ∷ back
    → item.entry.event ≡ Deliver op
    → IsIssuedAmong front op

-- The entry issued the operation at its replica, or delivered it there.
abbrev pub IssuesOrDelivers : JournalEntry → Op → Type 0
IssuesOrDelivers entry op = IsIn op (ops_of_outcome entry.outcome) ⊎ (entry.event ≡ Deliver op)

-- Each delivered operation was issued at some replica, or delivered to one, by an earlier entry.
abbrev pub AreKnownBeforeDelivery : List ReplicaEntry → Type 0
AreKnownBeforeDelivery interleaving =
    (front : List ReplicaEntry) (item : ReplicaEntry) (back : List ReplicaEntry) (op : Op)
    → interleaving ≡ front ++ item ∷ back
    → item.entry.event ≡ Deliver op
    → (earlier : ReplicaEntry) × IsIn earlier front × IssuesOrDelivers earlier.entry op

-- ---- the journals under the locks

-- The replica is the one that results from a new one by a whole history of the book: its entries,
-- in their order, with their recorded outcomes. Its UIDs began with 1 or more.
pub record HasHistory (book : BookState) : Type 0 where
  pub from_one : 1 ≤ book.node.start.uid
  pub history : HasPast book

-- `HasHistory` holds of each of the replicas.
abbrev pub HaveHistories : List BookState → Type 0
HaveHistories books = (book : BookState) → IsIn book books → HasHistory book

-- One of the entries issued the operation or delivered it.
abbrev pub HasIssuedOrDelivered : List JournalEntry → Op → Type 0
HasIssuedOrDelivered entries op =
    (entry : JournalEntry) × IsIn entry entries × IssuesOrDelivers entry op

-- The book of a replica at which nothing has happened.
abbrev pub unused_book : Counters → BookState
unused_book start = record { node = unused_node start; forgotten_count = 0; journal = [] }

-- One of the books takes a step, whose entry becomes its journal's last one, and forgets nothing.
-- The other books stay unchanged.
pub record TakesStep (books : List BookState) (item : ReplicaEntry) (later : List BookState) :
    Type 0 where
  pub front : List BookState
  pub old : BookState
  pub new : BookState
  pub back : List BookState
  pub before : books ≡ front ++ old ∷ back
  pub after : later ≡ front ++ new ∷ back
  pub named : item.replica ≡ old.node.start.replica
  pub step : IsStep old.node item.entry.event item.entry.outcome new.node
  pub forgotten_count : new.forgotten_count ≡ old.forgotten_count
  pub entry : new.journal ≡ old.journal ++ item.entry ∷ []

-- One of the books forgets its oldest entries. The other books stay unchanged.
pub record ForgetsEntries (books : List BookState) (later : List BookState) : Type 0 where
  pub front : List BookState
  pub old : BookState
  pub count : ℕ
  pub back : List BookState
  pub before : books ≡ front ++ old ∷ back
  pub after : later ≡ front ++ book_after_forget count old ∷ back

-- ---- interleavings that begin in any world

-- These entries lead from the replica at a name to the later one; without a replica there
-- are no entries.
abbrev pub LeadsAt : Option NodeState → List JournalEntry → Option NodeState → Type 0
LeadsAt None [] later = later ≡ None
LeadsAt None (entry ∷ entries) later = ⊥
LeadsAt (Some node) entries later =
    (new : NodeState) × LeadsTo node entries new × (later ≡ Some new)
