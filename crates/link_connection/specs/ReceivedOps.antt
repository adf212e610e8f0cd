-- Which operations a link gave its receiver: those of the stream's authentic frames.

use Rattle.std.specs.Prelude.{◌≡◌, ℕ, Bool, true, false, List, [], ◌∷◌, ◌++◌}
use Rattle.crdt_ops.specs.declared.op.Op.{Op as Operation}
use Rattle.crdt_ops.specs.Form.{Each}
use Rattle.link_wire.specs.declared.limits.Limits.{Limits}
use Rattle.link_wire.specs.declared.wire_message.WireMessage.{WireMessage}
use Rattle.link_wire.specs.declared.wire_message.WireMessage.TheVariants.{Op, Have, Want, Ping, Bye}
use Rattle.link_wire.specs.Digests.{Digest}
use Rattle.link_wire.specs.Frames.{AreEachFrames, frames_text}
use Rattle.link_wire.specs.Framing.{concat_pieces}
use Rattle.link_wire.specs.MessageForm.{AreSpelled, IsLawful}

-- The operations of messages, in their order.
abbrev pub ops_of : List WireMessage → List Operation
ops_of [] = []
ops_of (Op op ∷ messages) = op ∷ ops_of messages
ops_of (Have clock chains ∷ messages) = ops_of messages
ops_of (Want clock ∷ messages) = ops_of messages
ops_of (Ping ∷ messages) = ops_of messages
ops_of (Bye reason ∷ messages) = ops_of messages

-- What a receiver has taken are the operations of the messages after which the link continued.
pub record TakesOps {S : Type 0} (acts : S → WireMessage → Bool → S → Type 0)
    (taken : S → List Operation) : Type 0 where
  pub continues : (s t : S) (message : WireMessage) → acts s message true t
      → taken t ≡ taken s ++ ops_of (message ∷ [])
  pub stops : (s t : S) (message : WireMessage) → acts s message false t → taken t ≡ taken s

-- These are the first operations of the stream's frames, each with the digest of its number, its
-- length and its payload, and each operation one that replicas may apply.
pub record AreFirstOps (limits : Limits) (digest : Digest) (stream : List ℕ)
    (ops : List Operation) : Type 0 where
  pub payloads : List (List ℕ)
  pub after : List ℕ
  pub messages : List WireMessage
  pub later : List WireMessage
  pub frames : AreEachFrames limits digest 0 payloads
  pub stream_is : stream ≡ frames_text digest 0 payloads ++ after
  pub spelled : AreSpelled (messages ++ later) (concat_pieces payloads)
  pub lawful : Each IsLawful (messages ++ later)
  pub ops_are : ops ≡ ops_of messages
