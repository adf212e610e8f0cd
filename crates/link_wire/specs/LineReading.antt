-- How the readers take a line apart. MessageForm says which lines spell a message; the contracts of
-- the readers and the laws join the two.

use Rattle.std.specs.Prelude.{◌≡◌, ℕ, ◌/◌, ◌%◌, ◌&&◌, ◌==◌, List, length, Option, Some, None}
use Rattle.std.specs.Prelude.{Result, Ok, Err, codes, if◌then◌else◌}
use Rattle.std.specs.Option.{option_map}
use Rattle.std.specs.Str.{bytes_eq}
use Rattle.hex.specs.declared.error.FromHexError.{FromHexError}
use Rattle.hex.specs.Hex.{decode_of, encode_lower}
use Rattle.imap_types.specs.ReaderSteps.{IsReadingBy}
use Rattle.text_fields.specs.FieldReading.{◌>>=◌, cut_at, replica_at}
use Rattle.crdt_ops.specs.declared.sound_op.Unsound.{Unsound}
use Rattle.crdt_ops.specs.declared.sound_op.Unsound.TheVariants.{OwnClockEntry, UncoveredId}
use Rattle.crdt_ops.specs.declared.sound_op.Unsound.TheVariants.{UnlawfulName, UnlawfulFlags}
use Rattle.crdt_ops.specs.declared.sound_op.Unsound.TheVariants.{DeleteOfInbox, Count}
use Rattle.crdt_ops.specs.Reading.{clock_at}
use Rattle.link_wire.specs.declared.line_fault.LineFault.{LineFault}
use Rattle.link_wire.specs.declared.line_fault.LineFault.TheVariants.{NotInForm}
use Rattle.link_wire.specs.declared.line_fault.LineFault.TheVariants.{Unsound as Unlawful, NoMemory}
use Rattle.link_wire.specs.declared.line_word.LineWord.{LineWord}
use Rattle.link_wire.specs.declared.line_word.LineWord.TheVariants.{Op as OpWord, Have as HaveWord}
use Rattle.link_wire.specs.declared.line_word.LineWord.TheVariants.{Want as WantWord}
use Rattle.link_wire.specs.declared.line_word.LineWord.TheVariants.{Bye as ByeWord}
use Rattle.link_wire.specs.declared.wire_message.ByeReason.{ByeReason}
use Rattle.link_wire.specs.declared.wire_message.ByeReason.TheVariants.{Hello, Version, Name}
use Rattle.link_wire.specs.declared.wire_message.ByeReason.TheVariants.{Secret, Frame, Torn, Line}
use Rattle.link_wire.specs.declared.wire_message.ByeReason.TheVariants.{Unsound as Broken, Fork}
use Rattle.link_wire.specs.declared.wire_message.ByeReason.TheVariants.{Behind, Memory, Busy}
use Rattle.link_wire.specs.declared.wire_message.WireMessage.{WireMessage}
use Rattle.link_wire.specs.declared.wire_message.WireMessage.TheVariants.{Have, Want, Bye}

-- A fault other than for memory says that nothing could be read.
abbrev pub IsReadFault : {Y : Type 0} → LineFault → Option Y → Type 0
IsReadFault NotInForm read = read ≡ None
IsReadFault (Unlawful rule) read = ⊥
IsReadFault NoMemory read = Unit {0}

-- A reader gives what could be read, or runs out of memory.
abbrev pub IsReading : {X Y : Type 0} → (X → Y) → Result X LineFault → Option Y → Type 0
IsReading = IsReadingBy IsReadFault

-- Octets that were decoded from hex, if they are 16 for each entry and the hex is in lower case.
abbrev pub chains_of : ℕ → List ℕ → Result (List ℕ) FromHexError → Option (List ℕ)
chains_of count text (Ok chains) =
    if (length chains / 16 == count && length chains % 16 == 0)
    && bytes_eq (encode_lower chains) text
    then Some chains else None
chains_of count text (Err error) = None

-- The chains that a field spells.
unfoldable pub chains_at : ℕ → List ℕ → Option (List ℕ)
chains_at count text = chains_of count text (decode_of text)

-- The `have` that these fields spell.
unfoldable pub have_at : List ℕ → Option WireMessage
have_at fields = do
  parts ← cut_at 32 fields
  clock ← clock_at parts.0
  chains ← chains_at (length clock) parts.1
  Some (Have clock chains)

-- The `want` that these fields spell.
unfoldable pub want_at : List ℕ → Option WireMessage
want_at fields = clock_at fields >>= (λ clock. Some (Want clock))

-- The number of a rule.
unfoldable pub rule_at : List ℕ → Option Unsound
rule_at field =
    if bytes_eq field (codes "U1") then Some OwnClockEntry
    else (if bytes_eq field (codes "U2") then Some UncoveredId
    else (if bytes_eq field (codes "U3") then Some UnlawfulName
    else (if bytes_eq field (codes "U4") then Some UnlawfulFlags
    else (if bytes_eq field (codes "U5") then Some DeleteOfInbox
    else (if bytes_eq field (codes "U6") then Some Count
    else None)))))

-- A reason of one word.
unfoldable pub plain_reason_at : List ℕ → Option ByeReason
plain_reason_at word =
    if bytes_eq word (codes "hello") then Some Hello
    else (if bytes_eq word (codes "version") then Some Version
    else (if bytes_eq word (codes "name") then Some Name
    else (if bytes_eq word (codes "secret") then Some Secret
    else (if bytes_eq word (codes "frame") then Some Frame
    else (if bytes_eq word (codes "torn") then Some Torn
    else (if bytes_eq word (codes "line") then Some Line
    else (if bytes_eq word (codes "memory") then Some Memory
    else (if bytes_eq word (codes "busy") then Some Busy
    else None))))))))

-- A reason of a word and a field.
unfoldable pub reason_with_field_at : List ℕ → List ℕ → Option ByeReason
reason_with_field_at word field =
    if bytes_eq word (codes "unsound") then option_map Broken (rule_at field)
    else (if bytes_eq word (codes "fork") then option_map Fork (replica_at field)
    else (if bytes_eq word (codes "behind") then option_map Behind (replica_at field)
    else None))

-- A reason, by whether it has a field.
abbrev pub reason_of : List ℕ → Option (List ℕ × List ℕ) → Option ByeReason
reason_of text None = plain_reason_at text
reason_of text (Some parts) = reason_with_field_at parts.0 parts.1

-- Why a link is ended.
unfoldable pub reason_at : List ℕ → Option ByeReason
reason_at text = reason_of text (cut_at 32 text)

-- The `bye` that these fields spell.
unfoldable pub bye_at : List ℕ → Option WireMessage
bye_at fields = option_map Bye (reason_at fields)

-- The text of the first word.
abbrev pub word_text : LineWord → List ℕ
word_text OpWord = codes "op"
word_text HaveWord = codes "have"
word_text WantWord = codes "want"
word_text ByeWord = codes "bye"

-- The first word of a line that has fields.
unfoldable pub word_at : List ℕ → Option LineWord
word_at word =
    if bytes_eq word (codes "op") then Some OpWord
    else (if bytes_eq word (codes "have") then Some HaveWord
    else (if bytes_eq word (codes "want") then Some WantWord
    else (if bytes_eq word (codes "bye") then Some ByeWord
    else None)))
