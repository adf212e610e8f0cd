-- Replicas with their journals, as a world, and how an interleaving of their whole histories
-- relates to that world.

use Rattle.std.specs.Prelude.{◌≡◌, ◌⊎◌, ℕ, List, ◌∷◌, ◌++◌, map}
use Rattle.crdt_ops.specs.declared.op.Op.{Op}
use Rattle.imap_node.specs.Nodes.{NodeState, unused_node}
use Rattle.replica_lock.specs.Histories.{BookState}
use Rattle.replica_lock.specs.declared.event.BookEvent.TheVariants.{Deliver}
use Rattle.server_laws.specs.WorldEvents.{event_of, outcome_of}
use Rattle.server_laws.specs.Interleavings.{HaveHistories, AreIssuedBeforeDelivery, ReplicaEntry}
use Rattle.server_laws.specs.Interleavings.{IsInterleavingOf, LeadsAt, IsIssuedAmong}
use Rattle.server_laws.specs.Interleavings.{entries_of_replica}
use Rattle.uid_projection.specs.declared.first_numbers.Counters.{Counters}
use Rattle.world_core.specs.Headline.{Headline}
use Rattle.world_core.specs.Replicas.{IsIssuedIn, Replicas, nodes_by_name}

abbrev pub start_of : BookState → Counters
start_of book = book.node.start

abbrev pub starts_of : List BookState → List Counters
starts_of books = map start_of books

abbrev pub node_of : BookState → NodeState
node_of book = book.node

-- The replicas as they began: none has received anything.
abbrev pub starting_world : List BookState → Replicas
starting_world books = nodes_by_name (map unused_node (starts_of books))

-- The replicas as they are.
abbrev pub current_world : List BookState → Replicas
current_world books = nodes_by_name (map node_of books)

-- An interleaving of whole histories, each of which leads to its replica, with each operation
-- issued before it is delivered.
pub record IsLinkedInterleaving (books : List BookState) (interleaving : List ReplicaEntry) : Type 0
  where
    pub histories : HaveHistories books
    pub merged : IsInterleavingOf books interleaving
    pub linked : AreIssuedBeforeDelivery interleaving

-- The headline holds of each interleaving of whole histories in which each operation is issued
-- before it is delivered. The histories include entries that the books forgot.
abbrev pub KeepTheHeadline : List BookState → Type 0
KeepTheHeadline books =
    (interleaving : List ReplicaEntry) → IsInterleavingOf books interleaving
    → AreIssuedBeforeDelivery interleaving
    → Headline (starting_world books) (map event_of interleaving) (map outcome_of interleaving)
    (current_world books)

-- At each name the entries lead from the replica of the one world to that of the other.
abbrev pub AllLead : Replicas → List ReplicaEntry → Replicas → Type 0
AllLead old interleaving new =
    (name : ℕ) → LeadsAt (old name) (entries_of_replica interleaving name) (new name)

-- Each delivered operation was issued in the world in which the entries begin, or by an earlier
-- entry.
abbrev pub AreIssuedBeforeDeliveryFrom : Replicas → List ReplicaEntry → Type 0
AreIssuedBeforeDeliveryFrom old interleaving =
    (front : List ReplicaEntry) (item : ReplicaEntry) (back : List ReplicaEntry) (op : Op)
    → interleaving ≡ front ++ item ∷ back
    → item.entry.event ≡ Deliver op
    → IsIssuedIn old op ⊎ IsIssuedAmong front op
