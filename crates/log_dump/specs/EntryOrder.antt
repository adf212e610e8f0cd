-- Whose log entries are, and which entry can follow others: a replica's log has the operations that
-- it applied, each after its causes (the IMAP-CRDT's causal delivery).

use Rattle.std.specs.Prelude.{◌≡◌, ◌⊎◌, ℕ, List, [], ◌∷◌, ◌++◌, Option, Some, None}
use Rattle.crdt_ops.specs.Ops.{clock_of, id_of}
use Rattle.imap_node.specs.Nodes.{first_numbers}
use Rattle.merge_laws.specs.Orders.{IsRipe}
use Rattle.op_log.specs.Entries.{ops_of}
use Rattle.op_log.specs.declared.entry.Entry.{Entry}
use Rattle.op_log.specs.declared.entry.Entry.TheVariants.{Apply, Begin, Commit}
use Rattle.uid_projection.specs.Exhaustion.{Exhausts}

-- The replica whose log an entry begins, if it begins one.
abbrev pub name_of_entry : Entry → Option ℕ
name_of_entry (Begin replica) = Some replica
name_of_entry (Apply op) = None
name_of_entry (Commit synced) = None

-- The replica that the first entry names, if any.
abbrev pub first_name : List Entry → Option ℕ
first_name [] = None
first_name (entry ∷ entries) = name_of_entry entry

-- The entry can follow these in the log of this replica: it names no other one, and its operation
-- is ripe after theirs and exhausts no counter. The replica's counters began at 1.
abbrev pub FollowsEntries : ℕ → List Entry → Entry → Type 0
FollowsEntries replica front (Begin name) = name ≡ replica
FollowsEntries replica front (Apply op) =
    IsRipe id_of clock_of (ops_of front) op
    × ¬ Exhausts (first_numbers replica) (ops_of front) (op ∷ [])
FollowsEntries replica front (Commit synced) = Unit {0}

-- Each entry can follow those before it.
abbrev pub AreInTurn : ℕ → List Entry → Type 0
AreInTurn replica entries =
    (front : List Entry) (entry : Entry) (back : List Entry) → entries ≡ front ++ entry ∷ back
    → FollowsEntries replica front entry

-- These are the entries before the first that can't follow those before it.
pub record StopsAfter (replica : ℕ) (entries front : List Entry) : Type 0 where
  pub entry : Entry
  pub back : List Entry
  pub cut : entries ≡ front ++ entry ∷ back
  pub in_turn : AreInTurn replica front
  pub misplaced : ¬ FollowsEntries replica front entry

-- These are the entries before the first that no log has there: none if the first entry names no
-- replica, else those before the first that can't follow.
abbrev pub AreBeforeMisplaced : List Entry → List Entry → Type 0
AreBeforeMisplaced entries front =
    ((first_name entries ≡ None) × (front ≡ []))
    ⊎ ((replica : ℕ) × (first_name entries ≡ Some replica) × StopsAfter replica entries front)
