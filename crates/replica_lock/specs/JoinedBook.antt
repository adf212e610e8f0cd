-- The book of a replica that joins with another one's operations, the book of a replica that is
-- restored with its own, and why there is none.

use Rattle.std.specs.Prelude.{◌≡◌, ℕ, ◌+◌, List, [], ◌∷◌, ◌++◌, length, None, Some, Result, Ok, Err}
use Rattle.std.specs.Prelude.{false, map}
use Rattle.tags_clocks.specs.declared.id.OpId.{OpId}
use Rattle.causal_inbox.specs.declared.delivery.Arrival.{Arrival}
use Rattle.causal_inbox.specs.declared.delivery.Arrival.TheVariants.{Applied, Held, Repeat}
use Rattle.causal_inbox.specs.declared.delivery.DeliverFault.TheVariants as delivering
use Rattle.crdt_ops.specs.declared.op.Op.{Op}
use Rattle.imap_node.specs.Nodes.{NodeState, first_numbers, joined_node}
use Rattle.imap_node.specs.Operations.{clock_of, id_of}
use Rattle.merge_laws.specs.Orders.{IsCausal, IsRipe}
use Rattle.replica_lock.specs.Histories.{BookState}
use Rattle.causal_inbox.specs.OwnIds.{IsLeastOwn}
use Rattle.replica_lock.specs.declared.book.JournalEntry.{JournalEntry}
use Rattle.replica_lock.specs.declared.event.BookEvent.TheVariants.{Deliver}
use Rattle.replica_lock.specs.declared.faults.JoinFault.{JoinFault}
use Rattle.replica_lock.specs.declared.faults.JoinFault.TheVariants.{Exhausted, NoMemory, NotCausal}
use Rattle.replica_lock.specs.declared.faults.JoinFault.TheVariants.{Own}
use Rattle.replica_lock.specs.declared.outcome.Outcome.{Outcome}
use Rattle.replica_lock.specs.declared.outcome.Outcome.TheVariants.{Delivered}
use Rattle.uid_projection.specs.Exhaustion.{Exhausts}

-- The entry of an operation that was delivered and applied; no held operation waited for it.
abbrev pub applied_entry : Op → JournalEntry
applied_entry op =
    record {
      event = Deliver op;
      outcome = Delivered (Ok (record { arrival = Applied 1; stalled = false }));
    }

-- The book of a replica of this name to which these operations were delivered, one after another,
-- and at which nothing else happened.
abbrev pub joined_book : ℕ → List Op → BookState
joined_book name ops =
    record { node = joined_node name ops; forgotten_count = 0; journal = map applied_entry ops }

-- That book after it forgot all entries.
abbrev pub restored_book : ℕ → List Op → BookState
restored_book name ops =
    record { node = joined_node name ops; forgotten_count = length ops; journal = [] }

-- The node after it applied one further operation.
abbrev pub node_with_op : NodeState → Op → NodeState
node_with_op node op = record node { applied = node.applied ++ op ∷ [] }

-- The book after one further operation was delivered and applied.
abbrev pub book_with_op : BookState → Op → BookState
book_with_op book op =
    record {
      node = node_with_op book.node op;
      forgotten_count = book.forgotten_count;
      journal = book.journal ++ applied_entry op ∷ [];
    }

-- That book if it had no entries and forgot the new one.
abbrev pub book_with_restored_op : BookState → Op → BookState
book_with_restored_op book op =
    record {
      node = node_with_op book.node op;
      forgotten_count = book.forgotten_count + 1;
      journal = book.journal;
    }

-- The first of the operations that can't be applied after those before it, and why: it isn't ripe
-- after them, or a counter of the new replica lacks a number for it.
pub record HasFirstFault (name : ℕ) (ops : List Op) (Why : List Op → Op → Type 0) : Type 0 where
  pub front : List Op
  pub op : Op
  pub back : List Op
  pub cut : ops ≡ front ++ op ∷ back
  pub causal : IsCausal id_of clock_of front
  pub not_exhausted : ¬ Exhausts (first_numbers name) [] front
  pub why : Why front op

-- Why no replica of this name joins with these operations. If one of them bears its name, that is
-- the reason, whatever else prevents the join.
abbrev pub IsJoinFault : ℕ → List Op → JoinFault → Type 0
IsJoinFault name ops (Own id) = IsLeastOwn id_of name ops (Some id)
IsJoinFault name ops (NotCausal id) =
    IsLeastOwn id_of name ops None
    × HasFirstFault name ops (λ front op. (op.id ≡ id) × ¬ IsRipe id_of clock_of front op)
IsJoinFault name ops Exhausted =
    IsLeastOwn id_of name ops None
    × HasFirstFault name ops
    (λ front op. IsRipe id_of clock_of front op × Exhausts (first_numbers name) front (op ∷ []))
IsJoinFault name ops NoMemory = IsLeastOwn id_of name ops None

-- Why no replica of this name is restored with these operations. Some may bear its name.
abbrev pub IsRestoreFault : ℕ → List Op → JoinFault → Type 0
IsRestoreFault name ops (Own id) = ⊥
IsRestoreFault name ops (NotCausal id) =
    HasFirstFault name ops (λ front op. (op.id ≡ id) × ¬ IsRipe id_of clock_of front op)
IsRestoreFault name ops Exhausted =
    HasFirstFault name ops
    (λ front op. IsRipe id_of clock_of front op × Exhausts (first_numbers name) front (op ∷ []))
IsRestoreFault name ops NoMemory = Unit {0}

-- ---- one operation

-- Why a replica didn't apply an operation.
abbrev pub IsApplyFault : NodeState → Op → JoinFault → Type 0
IsApplyFault node op (Own id) = ⊥
IsApplyFault node op (NotCausal id) = (op.id ≡ id) × ¬ IsRipe id_of clock_of node.applied op
IsApplyFault node op Exhausted =
    IsRipe id_of clock_of node.applied op × Exhausts node.start node.applied (op ∷ [])
IsApplyFault node op NoMemory = Unit {0}

-- The fault, if any, shown by a delivery: none if the operation was applied at once.
abbrev pub join_fault_of_arrival : OpId → Arrival → Result (Unit {0}) JoinFault
join_fault_of_arrival id (Applied count) = Ok tt
join_fault_of_arrival id Held = Err (NotCausal id)
join_fault_of_arrival id Repeat = Err (NotCausal id)

abbrev pub join_fault_of : OpId → Outcome → Result (Unit {0}) JoinFault
join_fault_of id (Delivered (Ok receipt)) = join_fault_of_arrival id receipt.arrival
join_fault_of id (Delivered (Err (delivering.Conflict other))) = Err (NotCausal id)
join_fault_of id (Delivered (Err delivering.HeldFull)) = Err (NotCausal id)
join_fault_of id (Delivered (Err delivering.Exhausted)) = Err Exhausted
join_fault_of id (Delivered (Err delivering.NoMemory)) = Err NoMemory
join_fault_of id _ = Err NoMemory
