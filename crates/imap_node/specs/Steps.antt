-- What one event, other than an input of a session, does at a node.

use Rattle.std.specs.Prelude.{◌≡◌, ◌↔◌, ℕ, ◌<◌, ◌≤◌, IsTrue, Result, Ok, Err}
use Rattle.causal_inbox.specs.declared.delivery.DeliverFault.{DeliverFault}
use Rattle.causal_inbox.specs.declared.delivery.Delivered.{Delivered}
use Rattle.causal_inbox.specs.declared.delivery.Drained.{Drained}
use Rattle.crdt_ops.specs.declared.op.Op.{Op}
use Rattle.imap_node.specs.Deliveries.{Delivers, DrainsHeld, HoldsRipeOp, IsRefusedAt}
use Rattle.imap_node.specs.Nodes.{NodeState, with_session_closed}
use Rattle.imap_node.specs.Sessions.{IsOpen, OpensSession}
use Rattle.imap_node.specs.declared.sessions.Auth.{Auth}
use Rattle.imap_node.specs.declared.sessions.OpenFault.{OpenFault}
use Rattle.imap_node.specs.declared.sessions.OpenFault.TheVariants.{NoMemory, TooManySessions}

-- All numbers that a session may have, from 1 to 1,024, are open.
abbrev pub IsFull : NodeState → Type 0
IsFull node = (n : ℕ) → 0 < n → n ≤ 1024 → IsOpen node.sessions n

-- A session is opened with the least number that isn't open; or nothing changes, since all numbers
-- are open, or memory ran out.
abbrev pub OpensAt : NodeState → Auth → Result ℕ OpenFault → NodeState → Type 0
OpensAt old auth (Ok n) new =
    OpensSession old.sessions auth n new.sessions × (new ≡ record old { sessions = new.sessions })
OpensAt old auth (Err TooManySessions) new = IsFull old × (new ≡ old)
OpensAt old auth (Err NoMemory) new = new ≡ old

-- An operation is received; or it is refused, and nothing changes.
abbrev pub DeliversAt : NodeState → Op → Result Delivered DeliverFault → NodeState → Type 0
DeliversAt old op (Ok delivered) new =
    Delivers old op delivered.arrival new × (IsTrue delivered.stalled ↔ HoldsRipeOp new)
DeliversAt old op (Err fault) new = IsRefusedAt old op fault × (new ≡ old)

-- Held operations whose causes were applied are applied, one after another.
abbrev pub DrainsAt : NodeState → Drained → NodeState → Type 0
DrainsAt old drained new =
    DrainsHeld old drained.applied new × (IsTrue drained.stalled ↔ HoldsRipeOp new)

-- An open session closes.
abbrev pub ClosesAt : NodeState → ℕ → NodeState → Type 0
ClosesAt old n new = IsOpen old.sessions n × (new ≡ with_session_closed old n)

-- No session with this number is open, and nothing changes.
abbrev pub IsNotOpenAt : NodeState → ℕ → NodeState → Type 0
IsNotOpenAt old n new = ¬ IsOpen old.sessions n × (new ≡ old)
