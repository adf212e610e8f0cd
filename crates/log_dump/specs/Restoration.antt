-- A node to which the operations of a log's entries are delivered, one after another.

use Rattle.std.specs.Prelude.{◌≡◌, ℕ, List, [], ◌∷◌, ◌++◌, Some, Result, Ok, Err, length}
use Rattle.causal_inbox.specs.Delivery.{IsApplicable}
use Rattle.causal_inbox.specs.declared.delivery.Arrival.{Arrival}
use Rattle.causal_inbox.specs.declared.delivery.Arrival.TheVariants as arrivals
use Rattle.causal_inbox.specs.declared.delivery.DeliverFault.{DeliverFault}
use Rattle.causal_inbox.specs.declared.delivery.DeliverFault.TheVariants as refusals
use Rattle.causal_inbox.specs.declared.delivery.Delivered.{Delivered}
use Rattle.crdt_ops.specs.Ops.{clock_of, id_of}
use Rattle.crdt_ops.specs.declared.op.Op.{Op}
use Rattle.imap_node.specs.Nodes.{NodeState, joined_node, received_ops}
use Rattle.op_log.specs.Entries.{ops_of}
use Rattle.op_log.specs.declared.entry.Entry.{Entry}
use Rattle.uid_projection.specs.Exhaustion.{Exhausts}
use Rattle.log_dump.specs.EntryOrder.{AreBeforeMisplaced, AreInTurn, StopsAfter, first_name}
use Rattle.log_dump.specs.declared.apply.ApplyFault.{ApplyFault}
use Rattle.log_dump.specs.declared.apply.ApplyFault.TheVariants as applying
use Rattle.log_dump.specs.declared.apply.EntriesFault.{EntriesFault}
use Rattle.log_dump.specs.declared.apply.EntriesFault.TheVariants as entering

-- The node applied an operation, and nothing else changed.
pub record HasApplied (old : NodeState) (op : Op) (new : NodeState) : Type 0 where
  pub applicable : IsApplicable id_of clock_of Exhausts (received_ops old) op
  pub is : new ≡ record old { applied = old.applied ++ op ∷ [] }

-- Whether an operation was applied, by how it arrived.
abbrev pub result_of_arrival : Arrival → Result (Unit {0}) ApplyFault
result_of_arrival (arrivals.Applied count) = Ok tt
result_of_arrival arrivals.Held = Err applying.CannotFollow
result_of_arrival arrivals.Repeat = Err applying.CannotFollow

-- Whether an operation was applied, by a node's answer to it.
abbrev pub result_of_delivery : Result Delivered DeliverFault → Result (Unit {0}) ApplyFault
result_of_delivery (Ok delivered) = result_of_arrival delivered.arrival
result_of_delivery (Err (refusals.Conflict id)) = Err applying.CannotFollow
result_of_delivery (Err refusals.HeldFull) = Err applying.CannotFollow
result_of_delivery (Err refusals.Exhausted) = Err applying.CannotFollow
result_of_delivery (Err refusals.NoMemory) = Err applying.NoMemory

-- The node of the replica whose log has these entries.
pub record IsRestoredNode (entries : List Entry) (node : NodeState) : Type 0 where
  pub replica : ℕ
  pub named : first_name entries ≡ Some replica
  pub in_turn : AreInTurn replica entries
  pub is : node ≡ joined_node replica (ops_of entries)

-- Why entries aren't applied.
abbrev pub IsEntriesFault : List Entry → EntriesFault → Type 0
IsEntriesFault entries entering.NoMemory = Unit {0}
IsEntriesFault entries (entering.CannotFollow place) =
    (front : List Entry) × AreBeforeMisplaced entries front × (place ≡ length front)

-- Why entries aren't applied to the node of this replica.
abbrev pub IsTurnFault : ℕ → List Entry → EntriesFault → Type 0
IsTurnFault replica entries entering.NoMemory = Unit {0}
IsTurnFault replica entries (entering.CannotFollow place) =
    (front : List Entry) × StopsAfter replica entries front × (place ≡ length front)
