-- The progress of an audit, line by line. The meaning of its verdicts is defined by `IsVerdict`.

use Rattle.std.specs.Prelude.{◌≡◌, ℕ, ◌+◌, ◌≤◌, List, ◌∷◌, ◌++◌, Option, Some, None, length}
use Rattle.std.specs.List.{flat_map}
use Rattle.crdt_ops.specs.Form.{IsReplica}
use Rattle.mail_script.specs.Lines.{lines_of}
use Rattle.mail_audit.specs.Audits.{IsVerdict, Each, IsNoEnd, IsRightPart, Part, part_text, sent_in}
use Rattle.mail_audit.specs.Audits.{text_of}
use Rattle.mail_audit.specs.DumpLines.{IsPhase}
use Rattle.mail_audit.specs.Dumps.{dump_line}
use Rattle.mail_audit.specs.KnownSessions.{TakesAllSent, nothing_known}
use Rattle.mail_audit.specs.Sessions.{known_for}
use Rattle.mail_audit.specs.declared.line_audit.Audit.{Audit}
use Rattle.mail_audit.specs.declared.open_dump.OpenDump.{OpenDump}
use Rattle.mail_audit.specs.Sessions.{Session}
use Rattle.mail_audit.specs.declared.verdict.AuditEnd.{AuditEnd}

-- The lines are the text of these parts, which give this knowledge of the sessions.
pub record AreAudited (lines : List (List ℕ)) (parts : List Part) (sessions : List Session) :
    Type 0 where
  pub whole : text_of lines ≡ flat_map part_text parts
  pub right : Each IsRightPart parts
  pub audited : (session : List ℕ)
      → TakesAllSent nothing_known (sent_in session parts) (known_for session sessions)

-- After the lines of whole parts, a dump has begun and not ended.
pub record IsOpen (lines : List (List ℕ)) (sessions : List Session) (dump : OpenDump) : Type 0 where
  pub front : List (List ℕ)
  pub inside : List (List ℕ)
  pub parts : List Part
  pub whole : lines ≡ front ++ dump_line dump.replica ∷ inside
  pub count : dump.first ≡ length front + 1
  pub named : IsReplica dump.replica
  pub audited : AreAudited front parts sessions
  pub not_ended : Each IsNoEnd inside
  pub phase : IsPhase inside dump.phase

abbrev pub HasTakenDump : List (List ℕ) → List Session → Option OpenDump → Type 0
HasTakenDump lines sessions None = (parts : List Part) × AreAudited lines parts sessions
HasTakenDump lines sessions (Some dump) = IsOpen lines sessions dump

-- The audit has taken these lines.
abbrev pub HasTaken : List (List ℕ) → Audit → Type 0
HasTaken lines audit = (audit.taken ≡ length lines) × HasTakenDump lines audit.sessions audit.dump

-- The audit ends at the line after these, whatever follows.
abbrev pub EndsAt : List (List ℕ) → List ℕ → AuditEnd → Type 0
EndsAt lines line end = (more : List (List ℕ)) → IsVerdict (lines ++ line ∷ more) end

-- The audit ends within a text after these lines, whatever follows.
abbrev pub EndsWithin : List (List ℕ) → List ℕ → AuditEnd → Type 0
EndsWithin front text end = (more : List ℕ) → IsVerdict (front ++ lines_of (text ++ more)) end

-- After these first lines, all lines that a text completes were taken, and this rest of the text is
-- left.
pub record HasAdvanced (front : List (List ℕ)) (old : Audit) (text : List ℕ) (new : Audit)
    (left : List ℕ) : Type 0 where
  pub done : List (List ℕ)
  pub lines : (more : List ℕ) → lines_of (text ++ more) ≡ done ++ lines_of (left ++ more)
  pub has_taken : HasTaken (front ++ done) new
  pub fits : new.taken + length left ≤ old.taken + length text
