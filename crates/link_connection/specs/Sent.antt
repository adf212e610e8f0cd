-- What a writer of a link sent: a frame of operations that its peer lacks.

use Rattle.std.specs.Prelude.{◌≡◌, ◌≢◌, ℕ, ◌+◌, ◌==◌, max, List, [], ◌∷◌, ◌++◌, map, take, Option}
use Rattle.std.specs.Prelude.{if◌then◌else◌, false}
use Rattle.causal_inbox.specs.Inbox.{uncovered_ops}
use Rattle.crdt_ops.specs.declared.op.Op.{Op as Operation}
use Rattle.crdt_ops.specs.Ops.{id_of}
use Rattle.imap_connection.specs.Devices.{TakesAllOrPart, TakesOctets}
use Rattle.link_connection.specs.declared.send_fault.SendFault.{SendFault}
use Rattle.link_connection.specs.declared.send_fault.SendFault.TheVariants.{OutsideLimits}
use Rattle.link_connection.specs.declared.send_fault.SendFault.TheVariants.{NoMemory, WriteFailed}
use Rattle.link_wire.specs.declared.frame_writer.WriteFault.{WriteFault}
use Rattle.link_wire.specs.declared.frame_writer.WriteFault.TheVariants.{NoMemory as NoFrameMemory}
use Rattle.link_wire.specs.declared.frame_writer.WriteFault.TheVariants.{OutsideLimits as Outside}
use Rattle.link_wire.specs.declared.wire_message.WireMessage.TheVariants.{Op}
use Rattle.link_wire.specs.Digests.{frame_digest}
use Rattle.link_wire.specs.Frames.{IsFrame}
use Rattle.link_wire.specs.FrameWriting.{WriterState, IsFrameWritten}
use Rattle.link_wire.specs.MessageTexts.{payload_text}
use Rattle.tags_clocks.specs.Clock.{count_of}

-- The first operations, at most `limit`, that the clock doesn't cover, among those of a list that
-- is so, in the list's order.
abbrev pub AreFirstUncovered : (List Operation → Type 0) → List (ℕ × ℕ) → ℕ → List Operation
    → Type 0
AreFirstUncovered lists clock limit ops =
    (all : List Operation) × lists all × (ops ≡ take limit (uncovered_ops id_of clock all))

-- The greatest of a number and the numbers of these operations of a replica.
abbrev pub greatest_number : ℕ → ℕ → List Operation → ℕ
greatest_number number replica [] = number
greatest_number number replica (op ∷ ops) =
    greatest_number (if replica == op.id.replica then max number op.id.number else number)
    replica ops

-- The clock was raised by just these operations.
abbrev pub IsRaisedBy : List (ℕ × ℕ) → List Operation → List (ℕ × ℕ) → Type 0
IsRaisedBy old ops new =
    (replica : ℕ) → count_of new replica ≡ greatest_number (count_of old replica) replica ops

-- The payload of operations: a line for each, in their order.
abbrev pub ops_payload : List Operation → List ℕ
ops_payload ops = payload_text (map Op ops)

-- The next frame, whose payload is the lines of these operations, was written to the sink.
pub record IsFrameSent (old : WriterState) (ops : List Operation) (before : Option (List ℕ))
    (new : WriterState)
    (after : Option (List ℕ)) : Type 0 where
  pub text : List ℕ
  pub written : IsFrameWritten old (ops_payload ops) [] new text
  pub taken : TakesOctets before text after

-- Operations were sent in one frame, if there are any; without any, nothing was written.
abbrev pub AreSent : WriterState → List Operation → Option (List ℕ) → WriterState
    → Option (List ℕ)
    → Type 0
AreSent old [] before new after = (new ≡ old) × (after ≡ before)
AreSent old (op ∷ ops) before new after = IsFrameSent old (op ∷ ops) before new after

-- The fault of a frame that isn't written, as a fault of sending.
abbrev pub fault_of_write : WriteFault → SendFault
fault_of_write Outside = OutsideLimits
fault_of_write NoFrameMemory = NoMemory

-- What a fault says of these operations and leaves. If their frame is outside the limits, or memory
-- ran out, nothing was written; if the sink failed, it took an initial part of the next frame.
abbrev pub IsRefused : List Operation → SendFault → WriterState → Option (List ℕ) → WriterState
    → Option (List ℕ)
    → Type 0
IsRefused ops OutsideLimits old before new after =
    (ops ≢ [])
    × (¬ IsFrame old.limits (frame_digest old.key) (old.count + 1) (ops_payload ops))
    × (new ≡ old)
    × (after ≡ before)
IsRefused ops NoMemory old before new after = (new ≡ old) × (after ≡ before)
IsRefused ops WriteFailed old before new after =
    (text : List ℕ)
    × IsFrameWritten old (ops_payload ops) [] new text
    × TakesAllOrPart false before text after

-- The same of operations of which this is known. If memory ran out, it may have been for these.
abbrev pub AreRefused : (List Operation → Type 0) → SendFault → WriterState → Option (List ℕ)
    → WriterState
    → Option (List ℕ)
    → Type 0
AreRefused known OutsideLimits old before new after =
    (ops : List Operation) × known ops × IsRefused ops OutsideLimits old before new after
AreRefused known NoMemory old before new after = (new ≡ old) × (after ≡ before)
AreRefused known WriteFailed old before new after =
    (ops : List Operation) × known ops × IsRefused ops WriteFailed old before new after
