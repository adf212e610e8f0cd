-- A replica's own operations: which it may issue, which come next, and when a counter is used up
-- (the IMAP-CRDT's ids and clocks).

use Rattle.std.specs.Prelude.{◌≡◌, ◌⊎◌, ℕ, ◌+◌, ◌<◌, List, ◌∷◌, ◌++◌, length, map}
use Rattle.causal_inbox.specs.Inbox.{IsClockOf}
use Rattle.crdt_ops.specs.declared.kind.Kind.{Kind}
use Rattle.crdt_ops.specs.declared.op.Op.{Op}
pub use Rattle.crdt_ops.specs.Ops.{clock_of, id_of}
use Rattle.crdt_ops.specs.Sound.{CoversReferenced, IsSound}
use Rattle.imap_answers.specs.declared.fixed_words.Refusal.{Refusal}
use Rattle.imap_answers.specs.declared.fixed_words.Refusal.TheVariants.{NoMemory, NumberUsedUp}
use Rattle.imap_commands.specs.Lawful.{IsLawfulKind}
use Rattle.merge_laws.specs.Orders.{HasId, IsIn}
use Rattle.tags_clocks.specs.Clock.{count_of}
use Rattle.uid_projection.specs.declared.first_numbers.Counters.{Counters}
use Rattle.uid_projection.specs.Applied.{IsApplied}
use Rattle.uid_projection.specs.Exhaustion.{Exhausts}

-- The operation comes next at this replica: its clock counts all that was applied there, and its
-- number is one more than those of the replica's operations among these.
pub record IsNext (replica : ℕ) (applied : List Op) (op : Op) : Type 0 where
  pub own : op.id.replica ≡ replica
  pub clock : IsClockOf id_of applied op.clock
  pub number : op.id.number ≡ count_of op.clock replica + 1

-- Operations of these kinds, in their order. Each comes next after those applied and those before
-- it.
pub record AreNext (replica : ℕ) (applied : List Op) (kinds : List Kind) (ops : List Op) :
    Type 0 where
  pub of_kinds : map (λ (o : Op). o.kind) ops ≡ kinds
  pub next : (front : List Op) (op : Op) (back : List Op) → ops ≡ front ++ op ∷ back
      → IsNext replica (applied ++ front) op

-- The replica's own numbers, which end at 4,294,967,295, don't suffice for operations of these
-- kinds.
abbrev pub ExceedsOwnNumbers : ℕ → List Op → List Kind → Type 0
ExceedsOwnNumbers replica applied kinds =
    (clock : List (ℕ × ℕ))
    × IsClockOf id_of applied clock
    × (4294967295 < count_of clock replica + length kinds)

-- Operations of these kinds exhaust a counter: the replica's own numbers, a folder's UIDs or
-- the UIDVALIDITYs.
abbrev pub ExceedsCounters : Counters → List Op → List Kind → Type 0
ExceedsCounters start applied kinds =
    ExceedsOwnNumbers start.replica applied kinds
    ⊎ ((ops : List Op) × AreNext start.replica applied kinds ops × Exhausts start applied ops)

-- These operations can be applied after the list, and exhaust no counter.
pub record CanFollow (start : Counters) (applied ops : List Op) : Type 0 where
  pub causal : IsApplied (applied ++ ops)
  pub not_exhausted : Exhausts start applied ops → ⊥

-- Why operations of these kinds can't be made ready.
abbrev pub IsReadyRefusal : Counters → List Op → List Kind → Refusal → Type 0
IsReadyRefusal start applied kinds why =
    (why ≡ NoMemory) ⊎ ((why ≡ NumberUsedUp) × ExceedsCounters start applied kinds)

-- The replica may issue an operation of this kind: its name and flags are lawful, it doesn't delete
-- INBOX, and it names only ids of applied operations.
pub record CanIssue (applied : List Op) (kind : Kind) : Type 0 where
  pub lawful : IsLawfulKind kind
  pub covered : (clock : List (ℕ × ℕ)) → IsClockOf id_of applied clock → CoversReferenced clock kind

-- The replica may issue an operation of this kind after the operations that this clock counts.
pub record CanIssueBy (clock : List (ℕ × ℕ)) (kind : Kind) : Type 0 where
  pub lawful : IsLawfulKind kind
  pub covered : CoversReferenced clock kind

-- The replica may issue operations of all these kinds.
abbrev pub CanIssueAll : List Op → List Kind → Type 0
CanIssueAll applied kinds = (kind : Kind) → IsIn kind kinds → CanIssue applied kind

-- An operation that a replica issues after these is sound, bears the replica's name, and has an id
-- that none of them has.
pub record IsFresh (replica : ℕ) (applied : List Op) (op : Op) : Type 0 where
  pub sound : IsSound op
  pub own : op.id.replica ≡ replica
  pub fresh : ¬ HasId id_of applied op.id
