-- Which messages have a text, and what each fault says of a line and of a payload.

use Rattle.std.specs.Prelude.{◌≡◌, ◌≢◌, ◌⊎◌, ◌*◌, ℕ, IsTrue, List, [], ◌∷◌, ◌++◌, length}
use Rattle.imap_types.specs.Escape.{AreOctets}
use Rattle.tags_clocks.specs.Clock.{IsClock}
use Rattle.crdt_ops.specs.declared.op.Op.{Op as Operation}
use Rattle.crdt_ops.specs.Form.{Each, IsEntry, IsReplica, IsInForm as IsOpInForm}
use Rattle.crdt_ops.specs.Sound.{IsFirstFault, IsSound}
use Rattle.link_wire.specs.declared.line_fault.LineFault.{LineFault}
use Rattle.link_wire.specs.declared.line_fault.LineFault.TheVariants.{NotInForm, Unsound, NoMemory}
use Rattle.link_wire.specs.declared.wire_message.ByeReason.{ByeReason}
use Rattle.link_wire.specs.declared.wire_message.ByeReason.TheVariants.{Fork, Behind}
use Rattle.link_wire.specs.declared.wire_message.WireMessage.{WireMessage}
use Rattle.link_wire.specs.declared.wire_message.WireMessage.TheVariants.{Op, Have, Want, Ping, Bye}
use Rattle.link_wire.specs.Digests.{has_no_lf}
use Rattle.link_wire.specs.MessageTexts.{message_text, payload_text}

-- A clock that can be written.
abbrev pub IsClockInForm : List (ℕ × ℕ) → Type 0
IsClockInForm clock = IsClock clock × Each IsEntry clock

-- A reason that can be written.
abbrev pub IsReasonInForm : ByeReason → Type 0
IsReasonInForm (Fork replica) = IsReplica replica
IsReasonInForm (Behind replica) = IsReplica replica
IsReasonInForm _ = Unit {0}

-- A message that can be written: a `have` has 16 octets for each entry of its clock.
abbrev pub IsInForm : WireMessage → Type 0
IsInForm (Op op) = IsOpInForm op
IsInForm (Have clock chains) =
    IsClockInForm clock × AreOctets chains × (length chains ≡ 16 * length clock)
IsInForm (Want clock) = IsClockInForm clock
IsInForm Ping = Unit {0}
IsInForm (Bye reason) = IsReasonInForm reason

-- Its operation, if it has one, is one that replicas may apply.
abbrev pub IsLawful : WireMessage → Type 0
IsLawful (Op op) = IsSound op
IsLawful _ = Unit {0}

-- The line, without its end, spells the message.
abbrev pub IsSpelled : WireMessage → List ℕ → Type 0
IsSpelled message line = IsInForm message × (line ≡ message_text message)

-- The lines of the payload, each with its end, spell these messages.
abbrev pub AreSpelled : List WireMessage → List ℕ → Type 0
AreSpelled messages payload = Each IsInForm messages × (payload ≡ payload_text messages)

-- What is wrong with a line: it spells no message, or an operation whose first fault breaks the
-- rule. Memory may run out for any.
abbrev pub IsLineFault : LineFault → List ℕ → Type 0
IsLineFault NotInForm line = (message : WireMessage) → ¬ IsSpelled message line
IsLineFault (Unsound rule) line = (op : Operation) × IsSpelled (Op op) line × IsFirstFault op rule
IsLineFault NoMemory line = Unit {0}

-- What is wrong with a payload: after whole lines of messages that may be acted on comes a line
-- with this fault, or octets without the end of a line (10).
pub record HasFirstFault (fault : LineFault) (payload : List ℕ) : Type 0 where
  pub messages : List WireMessage
  pub line : List ℕ
  pub rest : List ℕ
  pub in_form : Each IsInForm messages
  pub lawful : Each IsLawful messages
  pub no_lf : IsTrue (has_no_lf line)
  pub ends : ((payload ≡ payload_text messages ++ (line ++ 10 ∷ rest)) × IsLineFault fault line)
      ⊎ ((payload ≡ payload_text messages ++ line) × (line ≢ []) × (fault ≡ NotInForm))

-- What a fault says of a payload. Memory may run out for any.
abbrev pub IsPayloadFault : LineFault → List ℕ → Type 0
IsPayloadFault NotInForm payload = HasFirstFault NotInForm payload
IsPayloadFault (Unsound rule) payload = HasFirstFault (Unsound rule) payload
IsPayloadFault NoMemory payload = Unit {0}
