-- How a conversation ends, and the BYE that names its end (RFC 9051, section 7.1.5).

use Rattle.std.specs.Prelude.{◌≡◌, ◌⊎◌, ℕ, false, Option, Some, None, List, [], ◌++◌, Result, Ok}
use Rattle.std.specs.Prelude.{Err, codes}
use Rattle.imap_lex.specs.declared.fault.FrameFaultKind.TheVariants as lex
use Rattle.imap_answers.specs.AnswerText.{text_of_answer}
use Rattle.imap_answers.specs.declared.answer.Answer.TheVariants.{Bye}
use Rattle.imap_answers.specs.declared.fixed_words.ByeReason.{ByeReason}
use Rattle.imap_answers.specs.declared.fixed_words.ByeReason.TheVariants as reasons
use Rattle.imap_connection.specs.Devices.{IsOutput, TakesAllOrPart}
use Rattle.imap_connection.specs.declared.end_reason.Ended.{Ended}
use Rattle.imap_connection.specs.declared.end_reason.Ended.TheVariants.{Logout, PeerClosed}
use Rattle.imap_connection.specs.declared.end_reason.Ended.TheVariants.{TooManySessions}
use Rattle.imap_connection.specs.declared.end_reason.Ended.TheVariants.{Framing}
use Rattle.imap_connection.specs.declared.end_reason.Ended.TheVariants.{ReadFailed}
use Rattle.imap_connection.specs.declared.end_reason.Ended.TheVariants.{WriteFailed}
use Rattle.imap_connection.specs.declared.end_reason.Ended.TheVariants.{NoMemory, ServerEnded}
use Rattle.imap_connection.specs.declared.end_reason.Ended.TheVariants.{Torn}
use Rattle.imap_connection.specs.declared.fault.PortFault.{PortFault}
use Rattle.imap_connection.specs.declared.fault.PortFault.TheVariants as faults

-- How a conversation ends at a fault of the port.
abbrev pub end_reason_of : PortFault → Ended
end_reason_of faults.TooManySessions = TooManySessions
end_reason_of faults.NoMemory = NoMemory
end_reason_of faults.NoRoom = NoMemory
end_reason_of faults.Torn = Torn
end_reason_of faults.PassedOver = Torn
end_reason_of faults.ServerEnded = ServerEnded

-- The reason that the BYE of an end names (RFC 9051, section 7.1.5). After a LOGOUT the BYE has
-- been sent already; a client that the server or the network has disconnected is sent none.
abbrev pub reason_of : Ended → Option ByeReason
reason_of Logout = None
reason_of PeerClosed = None
reason_of TooManySessions = Some reasons.TooManySessions
reason_of (Framing lex.LineTooLong) = Some reasons.LineTooLong
reason_of (Framing lex.LiteralTooLong) = Some reasons.LiteralTooLong
reason_of (Framing lex.NulByte) = Some reasons.NulInText
reason_of (Framing lex.NoMemory) = Some reasons.NoMemory
reason_of (Framing lex.Failed) = None
reason_of ReadFailed = None
reason_of WriteFailed = None
reason_of NoMemory = Some reasons.NoMemory
reason_of Torn = Some reasons.ReplicaChanged
reason_of ServerEnded = None

-- The text of a BYE; empty if there is none.
abbrev pub text_of_bye : Option ByeReason → List ℕ
text_of_bye None = []
text_of_bye (Some reason) = text_of_answer (Bye reason)

-- The text that is written last.
abbrev pub bye_text_of : Ended → List ℕ
bye_text_of ended = text_of_bye (reason_of ended)

-- The text for an end in the log.
abbrev pub log_text_of : Ended → List ℕ
log_text_of Logout = codes "logout"
log_text_of PeerClosed = codes "closed by the client"
log_text_of TooManySessions = codes "too many sessions"
log_text_of (Framing _) = codes "bad framing"
log_text_of ReadFailed = codes "read failed"
log_text_of WriteFailed = codes "write failed"
log_text_of NoMemory = codes "no memory"
log_text_of Torn = codes "replica changed"
log_text_of ServerEnded = codes "ended by the server"

-- How many reads failed in a conversation that ended in this way.
abbrev pub failed_reads : Ended → ℕ
failed_reads ReadFailed = 1
failed_reads _ = 0

-- How many writes failed in a conversation that ended in this way.
abbrev pub failed_writes : Ended → ℕ
failed_writes WriteFailed = 1
failed_writes _ = 0

-- How many writes failed, in a conversation that may continue.
abbrev pub write_failures : Result (Unit {0}) Ended → ℕ
write_failures (Ok all) = 0
write_failures (Err ended) = failed_writes ended

-- The text of a conversation that ended in this way was taken or is buffered; if a write failed, an
-- initial part was taken.
abbrev pub IsLastOutput : Ended → Option (List ℕ) → List ℕ → List ℕ → Option (List ℕ) → List ℕ
    → Type 0
IsLastOutput ended old held output new left =
    ((ended ≡ WriteFailed) × TakesAllOrPart false old (held ++ output) new)
    ⊎ (((ended ≡ WriteFailed) → ⊥) × IsOutput old held output new left)
