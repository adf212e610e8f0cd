-- The meaning of an audit's verdicts: what a `yes`, a `no` and an unreadable line say about the
-- lines of the input.

use Rattle.std.specs.Prelude.{◌≡◌, ◌⊎◌, ℕ, ◌+◌, ◌<◌, ◌≤◌, List, [], ◌∷◌, ◌++◌, length, codes}
use Rattle.std.specs.Prelude.{IsTrue, if◌then◌else◌}
use Rattle.std.specs.List.{flat_map}
use Rattle.std.specs.Str.{bytes_eq}
use Rattle.std.specs.Fmt.{decimal}
pub use Rattle.crdt_ops.specs.Form.{Each}
use Rattle.crdt_ops.specs.Form.{IsReplica}
use Rattle.imap_types.specs.Escape.{AreOctets, escape_text}
use Rattle.imap_types.specs.declared.escape.Escape.TheVariants.{Text}
use Rattle.mail_script.specs.Fields.{is_session_name}
use Rattle.mail_script.specs.Transcript.{mark_of}
use Rattle.mail_script.specs.declared.transcript.Speaker.{Speaker}
use Rattle.mail_audit.specs.Dumps.{IsRightDump, dump_line}
use Rattle.mail_audit.specs.Results.{IsResult}
use Rattle.mail_audit.specs.Transcripts.{IsExplainedTranscript, SentOctets}
use Rattle.mail_audit.specs.declared.verdict.AuditEnd.{AuditEnd}
use Rattle.mail_audit.specs.declared.verdict.AuditEnd.TheVariants.{Yes, No, Unreadable, ReadFailed}
use Rattle.mail_audit.specs.declared.verdict.AuditEnd.TheVariants.{WriteFailed, NoMemory}

-- A line with its end, LF (10).
abbrev pub ended_line : List ℕ → List ℕ
ended_line line = line ++ 10 ∷ []

-- Lines with their ends, one after another.
abbrev pub text_of : List (List ℕ) → List ℕ
text_of lines = flat_map ended_line lines

-- The parts of an input: lines of transcripts, lines that report results, and whole dumps.
pub data Part : Type 0 where
  Spoken : List ℕ → Speaker → List ℕ → Part
  Result : List ℕ → Part
  Dumped : List ℕ → Part

-- A line of a transcript: the session, who sent the text, and the text without its closing CRLF,
-- escaped so that spaces stay as they are.
abbrev pub spoken_line : List ℕ → Speaker → List ℕ → List ℕ
spoken_line session speaker text = session ++ (mark_of speaker ++ escape_text Text text)

-- A line of a transcript.
abbrev pub IsSpokenLine : List ℕ → Type 0
IsSpokenLine line =
    (session : List ℕ)
    × (speaker : Speaker)
    × (text : List ℕ)
    × IsTrue (is_session_name session)
    × AreOctets text
    × (line ≡ spoken_line session speaker text)

-- The first line of a dump.
abbrev pub IsDumpBegin : List ℕ → Type 0
IsDumpBegin line = (replica : ℕ) × IsReplica replica × (line ≡ dump_line replica)

-- The text of a part.
abbrev pub part_text : Part → List ℕ
part_text (Spoken session speaker text) = ended_line (spoken_line session speaker text)
part_text (Result line) = ended_line line
part_text (Dumped text) = text

-- The part can be read, and is right if it is a dump.
abbrev pub IsRightPart : Part → Type 0
IsRightPart (Spoken session speaker text) = IsTrue (is_session_name session) × AreOctets text
IsRightPart (Result line) = IsResult line
IsRightPart (Dumped text) = IsRightDump text

-- The octets that a line of a transcript shows, with their closing CRLF (13, 10).
abbrev pub sent_by : Speaker → List ℕ → SentOctets
sent_by speaker text = record { speaker = speaker; octets = text ++ 13 ∷ 10 ∷ [] }

-- The octets that were sent in a session, in order.
abbrev pub sent_in : List ℕ → List Part → List SentOctets
sent_in session [] = []
sent_in session (Spoken other speaker text ∷ parts) =
    if bytes_eq session other then sent_by speaker text ∷ sent_in session parts
    else sent_in session parts
sent_in session (Result line ∷ parts) = sent_in session parts
sent_in session (Dumped text ∷ parts) = sent_in session parts

-- The lines are the text of these parts, every dump is right, and every session's transcript is
-- explained.
pub record AreRight (lines : List (List ℕ)) (parts : List Part) : Type 0 where
  pub whole : text_of lines ≡ flat_map part_text parts
  pub right : Each IsRightPart parts
  pub explained : (session : List ℕ) → IsExplainedTranscript (sent_in session parts)

-- An input whose verdict is yes.
abbrev pub IsRight : List (List ℕ) → Type 0
IsRight lines = (parts : List Part) × AreRight lines parts

-- The line of this number, from 1, belongs to a session's transcript, which isn't explained if it
-- ends with that line; everything before the line is right.
pub record IsUnexplained (lines : List (List ℕ)) (number : ℕ) : Type 0 where
  pub front : List (List ℕ)
  pub back : List (List ℕ)
  pub parts : List Part
  pub session : List ℕ
  pub speaker : Speaker
  pub text : List ℕ
  pub whole : lines ≡ front ++ spoken_line session speaker text ∷ back
  pub count : number ≡ length front + 1
  pub right : AreRight front parts
  pub named : IsTrue (is_session_name session)
  pub octets : AreOctets text
  pub unexplained : ¬ IsExplainedTranscript
      (sent_in session (parts ++ Spoken session speaker text ∷ []))

-- The line doesn't end a dump.
abbrev pub IsNoEnd : List ℕ → Type 0
IsNoEnd line = line ≡ codes "end" → ⊥

-- The line of this number is in a dump, after its first line: everything before the dump is right,
-- and the dump doesn't end before the line.
pub record IsInDump (lines : List (List ℕ)) (number : ℕ) : Type 0 where
  pub front : List (List ℕ)
  pub inside : List (List ℕ)
  pub back : List (List ℕ)
  pub parts : List Part
  pub replica : ℕ
  pub whole : lines ≡ front ++ dump_line replica ∷ (inside ++ back)
  pub named : IsReplica replica
  pub right : AreRight front parts
  pub not_ended : Each IsNoEnd inside
  pub after_first : length front + 1 < number
  pub at_most : number ≤ length front + length inside + 2
  pub within : number ≤ length lines

-- A no at a line.
abbrev pub IsNo : List (List ℕ) → ℕ → Type 0
IsNo lines number = IsUnexplained lines number ⊎ IsInDump lines number

-- Everything before the line of this number is right, and the line belongs to no transcript, begins
-- no dump and reports no result.
pub record IsUnread (lines : List (List ℕ)) (number : ℕ) : Type 0 where
  pub front : List (List ℕ)
  pub line : List ℕ
  pub back : List (List ℕ)
  pub parts : List Part
  pub whole : lines ≡ front ++ line ∷ back
  pub count : number ≡ length front + 1
  pub right : AreRight front parts
  pub not_spoken : IsSpokenLine line → ⊥
  pub begins_no_dump : IsDumpBegin line → ⊥
  pub no_result : IsResult line → ⊥

-- The line of this number is in a dump or begins it: everything before the dump is right, and the
-- dump doesn't end before the line.
pub record IsOfDump (lines : List (List ℕ)) (number : ℕ) : Type 0 where
  pub front : List (List ℕ)
  pub inside : List (List ℕ)
  pub back : List (List ℕ)
  pub parts : List Part
  pub replica : ℕ
  pub whole : lines ≡ front ++ dump_line replica ∷ (inside ++ back)
  pub named : IsReplica replica
  pub right : AreRight front parts
  pub not_ended : Each IsNoEnd inside
  pub after : length front < number
  pub at_most : number ≤ length front + length inside + 2
  pub within : number ≤ length lines

-- A line that can't be read, or at which the input ends within a dump.
abbrev pub IsUnreadable : List (List ℕ) → ℕ → Type 0
IsUnreadable lines number = IsUnread lines number ⊎ IsOfDump lines number

-- The meaning of a verdict on the lines of an input.
abbrev pub IsVerdict : List (List ℕ) → AuditEnd → Type 0
IsVerdict lines Yes = IsRight lines
IsVerdict lines (No number) = IsNo lines number
IsVerdict lines (Unreadable number) = IsUnreadable lines number
IsVerdict lines ReadFailed = Unit {0}
IsVerdict lines WriteFailed = Unit {0}
IsVerdict lines NoMemory = Unit {0}

-- The text of a verdict.
abbrev pub end_text : AuditEnd → List ℕ
end_text Yes = codes "yes\n"
end_text (No number) = codes "no: line " ++ (decimal number ++ 10 ∷ [])
end_text (Unreadable number) = codes "unreadable: line " ++ (decimal number ++ 10 ∷ [])
end_text ReadFailed = codes "cannot read\n"
end_text WriteFailed = []
end_text NoMemory = codes "no memory\n"
