-- The operations that a node issues: sound, its own, and new (the IMAP-CRDT's rules for new tags).

use Rattle.std.specs.Prelude.{◌≡◌, List, [], ◌++◌}
use Rattle.causal_inbox.specs.Inbox.{AreIssued, AreRemainingHeld}
use Rattle.crdt_ops.specs.declared.kind.Kind.{Kind}
use Rattle.crdt_ops.specs.declared.op.Op.{Op}
use Rattle.imap_node.specs.Nodes.{NodeState}
use Rattle.imap_node.specs.Operations.{AreNext, IsFresh, clock_of, id_of}
use Rattle.imap_node.specs.declared.reply.Reply.{Reply}
use Rattle.imap_node.specs.declared.reply.Reply.TheVariants.{Done, Refused}
use Rattle.merge_laws.specs.Orders.{IsIn}
use Rattle.uid_projection.specs.Applied.{IsApplied}
use Rattle.uid_projection.specs.Exhaustion.{Exhausts}

-- The operations that a reply issued; none if the input was refused.
abbrev pub issued_by : Reply → List Op
issued_by (Done answers silent issued) = issued
issued_by (Refused why closed) = []

-- The node issued exactly these operations: its list grew by them at its end, and a held operation
-- with the id of one of them was dropped. They come next, one after another, and exhaust no
-- counter. Each is sound, bears the node's name, and has an id that no operation applied before
-- has.
pub record Issues (old : NodeState) (ops : List Op) (new : NodeState) : Type 0 where
  pub start : new.start ≡ old.start
  pub applied : new.applied ≡ old.applied ++ ops
  pub held : AreRemainingHeld id_of ops old.held new.held
  pub issued : AreIssued id_of clock_of old.applied ops
  pub kinds : List Kind
  pub next : AreNext old.start.replica old.applied kinds ops
  pub fresh : (op : Op) → IsIn op ops → IsFresh old.start.replica old.applied op
  pub not_exhausted : Exhausts old.start old.applied ops → ⊥
  pub whole : IsApplied new.applied
