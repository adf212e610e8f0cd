-- What a reader of a link did with the octets of its peer: the messages of whole frames were acted
-- on, in their order, up to the first fault or the first message that ends the link.

use Rattle.std.specs.Prelude.{◌≡◌, ◌≢◌, ℕ, ◌+◌, ◌^◌, ◌<◌, Bool, true, false, List, [], ◌∷◌, ◌++◌}
use Rattle.std.specs.Prelude.{length, Ok}
use Rattle.crdt_ops.specs.Form.{Each}
use Rattle.link_connection.specs.declared.receive_end.ReceiveEnd.{ReceiveEnd}
use Rattle.link_connection.specs.declared.receive_end.ReceiveEnd.TheVariants.{Closed, ReadFailed}
use Rattle.link_connection.specs.declared.receive_end.ReceiveEnd.TheVariants.{BadFrame, BadLine}
use Rattle.link_connection.specs.declared.receive_end.ReceiveEnd.TheVariants.{Stopped, NoMemory}
use Rattle.link_wire.specs.declared.fault.FrameFault.{FrameFault}
use Rattle.link_wire.specs.declared.fault.FrameFault.TheVariants.{BadHeader, TooManyFrames}
use Rattle.link_wire.specs.declared.fault.FrameFault.TheVariants.{BadDigest, Failed}
use Rattle.link_wire.specs.declared.fault.FrameFault.TheVariants.{NoMemory as NoFrameMemory}
use Rattle.link_wire.specs.declared.limits.Limits.{Limits}
use Rattle.link_wire.specs.declared.line_fault.LineFault.{LineFault}
use Rattle.link_wire.specs.declared.line_fault.LineFault.TheVariants.{NotInForm, Unsound}
use Rattle.link_wire.specs.declared.line_fault.LineFault.TheVariants.{NoMemory as NoLineMemory}
use Rattle.link_wire.specs.declared.wire_message.WireMessage.{WireMessage}
use Rattle.link_wire.specs.Digests.{Digest, frame_digest}
use Rattle.link_wire.specs.Frames.{AreEachFrames, FailsAfter, IsFrame, IsRest}
use Rattle.link_wire.specs.Frames.{frame_text, frames_text}
use Rattle.link_wire.specs.Framing.{FramerState, FrameProgress, cut_of_stream}
use Rattle.link_wire.specs.MessageForm.{AreSpelled, IsLawful, IsPayloadFault}

-- The lines of the payload spell these messages, and each may be acted on.
abbrev pub AreRead : List WireMessage → List ℕ → Type 0
AreRead messages payload = AreSpelled messages payload × Each IsLawful messages

-- What comes next in the stream, after `count` frames, is the frame of this payload.
abbrev pub IsNextFrame : Limits → Digest → ℕ → List ℕ → List ℕ → Type 0
IsNextFrame limits digest count payload stream =
    IsFrame limits digest (count + 1) payload
    × ((rest : List ℕ) × (stream ≡ frame_text digest (count + 1) payload ++ rest))

-- How many reads failed on a link that ended so.
abbrev pub failed_reads : ReceiveEnd → ℕ
failed_reads ReadFailed = 1
failed_reads _ = 0

-- The octets that were read made the end: the source neither ended nor failed.
abbrev pub IsByOctets : ReceiveEnd → Type 0
IsByOctets Closed = ⊥
IsByOctets ReadFailed = ⊥
IsByOctets _ = Unit {0}

-- The end of a link at a fault of its frames.
abbrev pub end_of_fault : FrameFault → ReceiveEnd
end_of_fault BadHeader = BadFrame BadHeader
end_of_fault TooManyFrames = BadFrame TooManyFrames
end_of_fault BadDigest = BadFrame BadDigest
end_of_fault NoFrameMemory = NoMemory
end_of_fault Failed = BadFrame Failed

-- The end of a link at a fault of a line.
abbrev pub end_of_line_fault : LineFault → ReceiveEnd
end_of_line_fault NotInForm = BadLine NotInForm
end_of_line_fault (Unsound rule) = BadLine (Unsound rule)
end_of_line_fault NoLineMemory = NoMemory

-- Messages, over the relation of a receiver before and after one of them, with whether the link
-- continues.
module _ {S : Type 0} (acts : S → WireMessage → Bool → S → Type 0) where
  -- The messages were acted on, one after another, and after each the link continued.
  abbrev pub AreActedOn : S → List WireMessage → S → Type 0
  AreActedOn s [] t = s ≡ t
  AreActedOn s (message ∷ messages) t =
      (next : S) × acts s message true next × AreActedOn next messages t

  -- One of the messages ended the link, after those before it; those after it weren't acted on.
  pub record IsStoppedBy (s : S) (messages : List WireMessage) (t : S) : Type 0 where
    pub front : List WireMessage
    pub message : WireMessage
    pub back : List WireMessage
    pub between : S
    pub messages_are : messages ≡ front ++ message ∷ back
    pub acted : AreActedOn s front between
    pub stops : acts between message false t

  -- All messages of the payloads were acted on, in their order.
  abbrev pub ActsOnPayloads : S → List (List ℕ) → S → Type 0
  ActsOnPayloads s [] t = s ≡ t
  ActsOnPayloads s (payload ∷ payloads) t =
      (messages : List WireMessage) × (next : S)
      × AreRead messages payload
      × AreActedOn s messages next
      × ActsOnPayloads next payloads t

  -- The link ended at this payload: one of its lines spells no message that may be acted on, and
  -- then none of its messages was acted on; or a message ended it; or memory ran out.
  abbrev pub EndsAtPayload : ReceiveEnd → S → List ℕ → S → Type 0
  EndsAtPayload Closed s payload t = ⊥
  EndsAtPayload ReadFailed s payload t = ⊥
  EndsAtPayload (BadFrame why) s payload t = ⊥
  EndsAtPayload (BadLine fault) s payload t =
      (fault ≢ NoLineMemory) × IsPayloadFault fault payload × (s ≡ t)
  EndsAtPayload Stopped s payload t =
      (messages : List WireMessage) × AreRead messages payload × IsStoppedBy s messages t
  EndsAtPayload NoMemory s payload t = s ≡ t

  -- The link ended at one of these payloads; the messages of those before it were acted on.
  pub record EndsAtOneOf (end : ReceiveEnd) (s : S) (payloads : List (List ℕ)) (t : S) :
      Type 0 where
    pub front : List (List ℕ)
    pub payload : List ℕ
    pub back : List (List ℕ)
    pub between : S
    pub payloads_are : payloads ≡ front ++ payload ∷ back
    pub acted : ActsOnPayloads s front between
    pub ends : EndsAtPayload end between payload t

  -- The end names the first thing in the rest of the stream, after `count` frames, that isn't a
  -- frame whose messages were all acted on. If memory runs out, it says nothing of the rest.
  abbrev pub EndsReceiving : ReceiveEnd → Limits → Digest → ℕ → List ℕ → S → S → Type 0
  EndsReceiving Closed limits digest count rest s t = IsRest limits count rest × (s ≡ t)
  EndsReceiving ReadFailed limits digest count rest s t = IsRest limits count rest × (s ≡ t)
  EndsReceiving (BadFrame why) limits digest count rest s t =
      FailsAfter limits digest count rest [] why × (s ≡ t)
  EndsReceiving (BadLine fault) limits digest count rest s t =
      (payload : List ℕ)
      × IsNextFrame limits digest count payload rest
      × EndsAtPayload (BadLine fault) s payload t
  EndsReceiving Stopped limits digest count rest s t =
      (payload : List ℕ)
      × IsNextFrame limits digest count payload rest
      × EndsAtPayload Stopped s payload t
  EndsReceiving NoMemory limits digest count rest s t = s ≡ t

  -- Of this stream, the messages of the first frames were acted on, whole frames in their order,
  -- and then the link ended so.
  pub record HasReceived (limits : Limits) (digest : Digest) (s : S) (stream : List ℕ)
      (end : ReceiveEnd)
      (t : S) : Type 0 where
    pub payloads : List (List ℕ)
    pub rest : List ℕ
    pub between : S
    pub frames : AreEachFrames limits digest 0 payloads
    pub stream_is : stream ≡ frames_text digest 0 payloads ++ rest
    pub acted : ActsOnPayloads s payloads between
    pub ends : EndsReceiving end limits digest (length payloads) rest between t

  -- Between two pieces of the stream: all messages of its whole frames were acted on, and the
  -- framer has read the rest of it. The limit of a payload can be counted.
  pub record IsReceiving (limits : Limits) (key : List ℕ) (s : S) (stream : List ℕ)
      (framer : FramerState)
      (t : S) : Type 0 where
    pub bounded : limits.payload < 2 ^ 64
    pub payloads : List (List ℕ)
    pub progress : FrameProgress
    pub framer_is : framer ≡ record { limits = limits; key = key; state = Ok progress }
    pub cut : cut_of_stream limits (frame_digest key) stream ≡ (payloads, Ok progress)
    pub acted : ActsOnPayloads s payloads t
