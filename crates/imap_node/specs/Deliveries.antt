-- What a node does with operations of other replicas: it applies, holds or refuses them, and
-- releases held ones (the IMAP-CRDT's causal delivery).

use Rattle.std.specs.Prelude.{◌≡◌, ℕ, Option}
use Rattle.causal_inbox.specs.Delivery.{IsArrival, IsDeliverFault}
use Rattle.causal_inbox.specs.Inbox.{AreReleasedInTurn, IsLawfulInbox, IsStalled}
use Rattle.causal_inbox.specs.declared.delivery.Arrival.{Arrival}
use Rattle.causal_inbox.specs.Stalls.{StallsFor}
use Rattle.causal_inbox.specs.declared.delivery.DeliverFault.{DeliverFault}
use Rattle.causal_inbox.specs.declared.delivery.Stall.{Stall}
use Rattle.crdt_ops.specs.declared.op.Op.{Op}
use Rattle.imap_node.specs.Nodes.{NodeState, received_ops}
use Rattle.imap_node.specs.Operations.{clock_of, id_of}
use Rattle.uid_projection.specs.Exhaustion.{Exhausts}

-- True of a node whatever it received: the applied operations are a causal list, no id is both
-- among them and among the held ones, an id determines its operation, and held operations ascend by
-- id and are no more than the limit.
abbrev pub IsOrderly : NodeState → Type 0
IsOrderly node = IsLawfulInbox id_of clock_of (received_ops node)

-- A node receives a delivered operation: it applies it and those that waited for it, or holds it,
-- or received it before. Its sessions stay as they are.
pub record Delivers (old : NodeState) (op : Op) (arrival : Arrival) (new : NodeState) : Type 0 where
  pub sessions : new.sessions ≡ old.sessions
  pub arrives : IsArrival id_of clock_of Exhausts (received_ops old) op arrival (received_ops new)

-- A node refuses a delivered operation.
abbrev pub IsRefusedAt : NodeState → Op → DeliverFault → Type 0
IsRefusedAt node op why = IsDeliverFault id_of clock_of Exhausts (received_ops node) op why

-- A node holds an operation although all its causes were applied.
abbrev pub HoldsRipeOp : NodeState → Type 0
HoldsRipeOp node = IsStalled id_of clock_of (received_ops node)

-- Why a node holds a ripe operation, if it holds one: the next operation to be released needs a
-- number from a counter that is used up, or only memory ran out.
abbrev pub StallsAt : NodeState → Option Stall → Type 0
StallsAt node why = StallsFor id_of clock_of Exhausts (received_ops node) why

-- A node releases `count` held operations whose causes were applied, each time the ripe one of the
-- least id. Its sessions stay as they are.
pub record DrainsHeld (old : NodeState) (count : ℕ) (new : NodeState) : Type 0 where
  pub sessions : new.sessions ≡ old.sessions
  pub released : AreReleasedInTurn id_of clock_of Exhausts count (received_ops old)
      (received_ops new)
