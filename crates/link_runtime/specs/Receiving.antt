-- What a link does with the messages of its peer.

use Rattle.std.specs.Prelude.{◌≡◌, ◌⊎◌, ◌<◌, ◌≤◌, ℕ, Bool, true, false, List, Result, Ok, Err}
use Rattle.tags_clocks.specs.Clock.{count_of}
use Rattle.merge_laws.specs.Orders.{IsCausal}
use Rattle.crdt_ops.specs.declared.op.Op.{Op as Operation}
use Rattle.crdt_ops.specs.Ops.{clock_of, id_of}
use Rattle.causal_inbox.specs.Inbox.{IsClockOf}
use Rattle.link_wire.specs.declared.wire_message.ByeReason.{ByeReason}
use Rattle.link_wire.specs.declared.wire_message.ByeReason.TheVariants.{Behind, Fork, Memory}
use Rattle.link_wire.specs.declared.wire_message.WireMessage.{WireMessage}
use Rattle.link_wire.specs.declared.wire_message.WireMessage.TheVariants.{Bye, Have, Op, Ping, Want}

-- A replica of this name has applied operations whose clock counts as many of its own as this one.
abbrev pub IsWithinApplied : ℕ → List (ℕ × ℕ) → Type 0
IsWithinApplied own clock =
    (applied : List Operation) × (known : List (ℕ × ℕ))
    × IsCausal id_of clock_of applied
    × IsClockOf id_of applied known
    × (count_of clock own ≤ count_of known own)

-- Why an operation ends its link: memory ran out, or the replica has another one with its id.
abbrev pub IsOpRefused : Operation → ByeReason → Type 0
IsOpRefused op reason = (reason ≡ Memory) ⊎ (reason ≡ Fork op.id.replica)

-- Why a clock with chains ends its link: memory ran out; or it counts more of the replica's own
-- operations than the replica has; or of some replica there are other operations here.
abbrev pub IsHaveRefused : ℕ → List (ℕ × ℕ) → ByeReason → Type 0
IsHaveRefused own clock reason =
    (reason ≡ Memory)
    ⊎ (((reason ≡ Behind own) × (0 < count_of clock own))
    ⊎ ((replica : ℕ) × (reason ≡ Fork replica)))

-- Whether the link continues after a message: never after a bye, and always after one that only
-- tells what the peer lacks, or that it is alive.
abbrev pub IsContinued : WireMessage → Bool → Type 0
IsContinued (Op op) continues = Unit {0}
IsContinued (Have clock chains) continues = Unit {0}
IsContinued (Want clock) continues = continues ≡ true
IsContinued Ping continues = continues ≡ true
IsContinued (Bye reason) continues = continues ≡ false
