-- The text of each message: the lines of a payload, without their ends.

use Rattle.std.specs.Prelude.{ℕ, List, [], ◌∷◌, ◌++◌, codes}
use Rattle.std.specs.Fmt.{decimal}
use Rattle.std.specs.List.{flat_map}
use Rattle.hex.specs.Hex.{encode_lower}
use Rattle.crdt_ops.specs.declared.sound_op.Unsound.{Unsound}
use Rattle.crdt_ops.specs.declared.sound_op.Unsound.TheVariants.{OwnClockEntry, UncoveredId}
use Rattle.crdt_ops.specs.declared.sound_op.Unsound.TheVariants.{UnlawfulName, UnlawfulFlags}
use Rattle.crdt_ops.specs.declared.sound_op.Unsound.TheVariants.{DeleteOfInbox, Count}
use Rattle.crdt_ops.specs.Text.{clock_text, op_text}
use Rattle.link_wire.specs.declared.wire_message.ByeReason.{ByeReason}
use Rattle.link_wire.specs.declared.wire_message.ByeReason.TheVariants.{Hello, Version, Name}
use Rattle.link_wire.specs.declared.wire_message.ByeReason.TheVariants.{Secret, Frame, Torn, Line}
use Rattle.link_wire.specs.declared.wire_message.ByeReason.TheVariants.{Unsound as Broken, Fork}
use Rattle.link_wire.specs.declared.wire_message.ByeReason.TheVariants.{Behind, Memory, Busy}
use Rattle.link_wire.specs.declared.wire_message.WireMessage.{WireMessage}
use Rattle.link_wire.specs.declared.wire_message.WireMessage.TheVariants.{Op, Have, Want, Ping, Bye}

-- The number of a rule of sound operations.
abbrev pub rule_text : Unsound → List ℕ
rule_text OwnClockEntry = codes "U1"
rule_text UncoveredId = codes "U2"
rule_text UnlawfulName = codes "U3"
rule_text UnlawfulFlags = codes "U4"
rule_text DeleteOfInbox = codes "U5"
rule_text Count = codes "U6"

-- Why a link is ended.
abbrev pub reason_text : ByeReason → List ℕ
reason_text Hello = codes "hello"
reason_text Version = codes "version"
reason_text Name = codes "name"
reason_text Secret = codes "secret"
reason_text Frame = codes "frame"
reason_text Torn = codes "torn"
reason_text Line = codes "line"
reason_text (Broken rule) = codes "unsound " ++ rule_text rule
reason_text (Fork replica) = codes "fork " ++ decimal replica
reason_text (Behind replica) = codes "behind " ++ decimal replica
reason_text Memory = codes "memory"
reason_text Busy = codes "busy"

-- A message.
abbrev pub message_text : WireMessage → List ℕ
message_text (Op op) = codes "op " ++ op_text op
message_text (Have clock chains) = codes "have " ++ clock_text clock ++ 32 ∷ encode_lower chains
message_text (Want clock) = codes "want " ++ clock_text clock
message_text Ping = codes "ping"
message_text (Bye reason) = codes "bye " ++ reason_text reason

-- The line of a message, with its end (10).
abbrev pub line_text : WireMessage → List ℕ
line_text message = message_text message ++ 10 ∷ []

-- The lines of messages.
abbrev pub payload_text : List WireMessage → List ℕ
payload_text messages = flat_map line_text messages
