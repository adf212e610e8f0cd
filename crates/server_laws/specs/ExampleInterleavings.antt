-- Interleavings of journals in some cases: those of two short journals, that of a replica which
-- joined, and journals with no interleaving that issues each operation before it is delivered.

use Rattle.std.specs.Prelude.{◌≡◌, ◌≢◌, ℕ, List, [], ◌∷◌, ◌++◌, map}
use Rattle.crdt_ops.specs.declared.op.Op.{Op}
use Rattle.merge_laws.specs.Orders.{IsIn}
use Rattle.replica_lock.specs.Histories.{BookState, IsPast}
use Rattle.replica_lock.specs.declared.book.JournalEntry.{JournalEntry}
use Rattle.replica_lock.specs.declared.event.BookEvent.TheVariants.{Deliver}
use Rattle.server_laws.specs.BookWorlds.{IsLinkedInterleaving}
use Rattle.server_laws.specs.Interleavings.{AreIssuedBeforeDelivery, HasHistory, IsInterleavingOf}
use Rattle.server_laws.specs.Interleavings.{IsIssuedAmong, ReplicaEntry}

-- The book's whole history is this one entry.
pub record HasOneEntry (book : BookState) (item : ReplicaEntry) : Type 0 where
  pub named : item.replica ≡ book.node.start.replica
  pub past : IsPast book []
  pub entry : book.journal ≡ item.entry ∷ []

-- Two replicas with one event each: either event may have happened first.
abbrev pub HaveTwoInterleavings : Type 0
HaveTwoInterleavings =
    (one other : BookState) (first second : ReplicaEntry)
    → first.replica ≢ second.replica
    → HasOneEntry one first
    → HasOneEntry other second
    → IsInterleavingOf (one ∷ other ∷ []) (first ∷ second ∷ [])
    × IsInterleavingOf (one ∷ other ∷ []) (second ∷ first ∷ [])

-- A journal as entries of the replica of this name.
abbrev pub entry_at : ℕ → JournalEntry → ReplicaEntry
entry_at name entry = record { replica = name; entry = entry }

-- The replica began with operations that its peer had applied: each entry ever made, none of which
-- was forgotten, delivers one of them.
pub record HasJoinedFrom (peer joined : BookState) : Type 0 where
  pub history : HasHistory joined
  pub forgotten_count : joined.forgotten_count ≡ 0
  pub delivers : (entry : JournalEntry) → IsIn entry joined.journal
      → (op : Op) × IsIn op peer.node.applied × (entry.event ≡ Deliver op)

-- A replica that joins under a name of its own, after all events at the others, extends their
-- interleaving.
abbrev pub JoinedAreLinked : Type 0
JoinedAreLinked =
    (books : List BookState) (peer joined : BookState) (interleaving : List ReplicaEntry)
    → IsLinkedInterleaving books interleaving
    → IsIn peer books
    → HasJoinedFrom peer joined
    → ((book : BookState) → IsIn book books
    → book.node.start.replica ≢ joined.node.start.replica)
    → IsLinkedInterleaving (books ++ joined ∷ [])
    (interleaving ++ map (entry_at joined.node.start.replica) joined.journal)

-- An operation that nobody issued is delivered: the premise fails.
abbrev pub UnissuedAreNotLinked : Type 0
UnissuedAreNotLinked =
    (interleaving : List ReplicaEntry) (item : ReplicaEntry) (op : Op)
    → IsIn item interleaving
    → item.entry.event ≡ Deliver op
    → ¬ IsIssuedAmong interleaving op
    → ¬ AreIssuedBeforeDelivery interleaving

-- No entry was forgotten, and the first one is a delivery.
pub record BeginsWithDelivery (book : BookState) : Type 0 where
  pub forgotten_count : book.forgotten_count ≡ 0
  pub op : Op
  pub entry : JournalEntry
  pub rest : List JournalEntry
  pub journal : book.journal ≡ entry ∷ rest
  pub event : entry.event ≡ Deliver op

-- Each journal may lead to its replica although no order of their entries is a run: for example, if
-- each begins with the delivery of an operation that another one issues later.
abbrev pub CrossedAreNotLinked : Type 0
CrossedAreNotLinked =
    (books : List BookState) (book : BookState) (interleaving : List ReplicaEntry)
    → IsIn book books
    → ((other : BookState) → IsIn other books → BeginsWithDelivery other)
    → IsInterleavingOf books interleaving
    → ¬ AreIssuedBeforeDelivery interleaving
