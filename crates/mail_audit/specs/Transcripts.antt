-- Explained transcripts of sessions: which commands a frame begins, which answers may be sent while
-- commands are in progress, and the events of both (RFC 9051, section 7.5.1; RFC 2177).

use Rattle.std.specs.Prelude.{◌≡◌, ◌⊎◌, ℕ, Bool, true, false, List, [], ◌∷◌, ◌++◌, Option, Some}
use Rattle.std.specs.Prelude.{None, IsTrue, IsFalse, if◌then◌else◌}
use Rattle.std.specs.List.{list_any}
use Rattle.std.specs.Str.{bytes_eq}
use Rattle.imap_syntax.specs.Commands.{IsSpelled}
use Rattle.imap_syntax.specs.declared.command.Command.{Command}
use Rattle.imap_syntax.specs.declared.command.Command.TheVariants as command
use Rattle.imap_syntax.specs.declared.command.Tagged.{Tagged}
use Rattle.imap_answers.specs.declared.answer.Answer.{Answer}
use Rattle.imap_answers.specs.declared.answer.Answer.TheVariants as answer
use Rattle.imap_answers.specs.Printable.{IsPrintable}
use Rattle.imap_answers.specs.AnswerText.{text_of_answer}
use Rattle.mail_script.specs.declared.transcript.Speaker.{Speaker}
use Rattle.mail_script.specs.declared.transcript.Speaker.TheVariants.{Client, Server}
use Rattle.mail_audit.specs.declared.event.SlotEvent.{SlotEvent}
use Rattle.mail_audit.specs.declared.event.SlotEvent.TheVariants.{Selects, Exists, Expunge, Names}
use Rattle.mail_audit.specs.declared.event.SlotEvent.TheVariants.{ReportsUid, Passes}
use Rattle.mail_audit.specs.declared.in_progress.RunningCommand.{RunningCommand}
use Rattle.mail_audit.specs.Explanations.{IsExplained}

-- EXPUNGE isn't sent while only FETCH, STORE or SEARCH by message numbers are in progress (RFC
-- 9051, section 7.5.1).
abbrev pub may_expunge : Command → Bool
may_expunge (command.Fetch asked) = asked.by_uid
may_expunge (command.Store asked) = asked.by_uid
may_expunge (command.Search asked) = asked.by_uid
may_expunge _ = true

abbrev pub idles : Command → Bool
idles command.Idle = true
idles _ = false

abbrev pub running_by : Tagged → RunningCommand
running_by tagged =
    record {
      tag = tagged.tag;
      may_expunge = may_expunge tagged.command;
      idles = idles tagged.command;
    }

-- The event of a command's beginning: SELECT and EXAMINE forget all messages, even if they are
-- refused later.
abbrev pub event_by : Command → SlotEvent
event_by (command.Select name condstore) = Selects
event_by (command.Examine name condstore) = Selects
event_by _ = Passes

-- A frame begins a command: it spells one, and the session doesn't idle.
abbrev pub Begins : List RunningCommand → List ℕ → Tagged → Type 0
Begins running frame tagged =
    IsFalse (list_any (λ (r : RunningCommand). r.idles) running) × IsSpelled tagged frame

-- The effect of a client's frame on the commands in progress, and its event.
abbrev pub IsFrameEffect : List RunningCommand → List ℕ → List RunningCommand → SlotEvent → Type 0
IsFrameEffect running frame after event =
    ((tagged : Tagged) × Begins running frame tagged × (after ≡ running ++ running_by tagged ∷ [])
    × (event ≡ event_by tagged.command))
    ⊎ (((tagged : Tagged) → ¬ Begins running frame tagged) × (after ≡ running) × (event ≡ Passes))

-- The commands without the first with this tag.
abbrev pub without_ended : List ℕ → List RunningCommand → List RunningCommand
without_ended tag [] = []
without_ended tag (r ∷ running) =
    if bytes_eq tag r.tag then running else r ∷ without_ended tag running

-- The commands in progress after an answer: a tagged one ends its command.
abbrev pub running_after : List RunningCommand → Answer → List RunningCommand
running_after running (answer.Completed tag code done) = without_ended tag running
running_after running (answer.Refused tag reason) = without_ended tag running
running_after running _ = running

abbrev pub event_of_uid : ℕ → Option ℕ → SlotEvent
event_of_uid number None = Names number
event_of_uid number (Some uid) = ReportsUid number uid

-- The event of an answer.
abbrev pub event_of : Answer → SlotEvent
event_of (answer.Exists count) = Exists count
event_of (answer.Expunge number) = Expunge number
event_of (answer.Fetch number items) = event_of_uid number items.uid
event_of _ = Passes

-- The answer may be sent while these commands are in progress.
abbrev pub MayBeSent : List RunningCommand → Answer → Type 0
MayBeSent running (answer.Expunge number) =
    IsTrue (list_any (λ (r : RunningCommand). r.may_expunge) running)
MayBeSent running _ = Unit {0}

-- The octets are one printed answer, which may be sent here; its effect on the commands in
-- progress, and its event.
abbrev pub IsAnswerEffect : List RunningCommand → List ℕ → List RunningCommand → SlotEvent → Type 0
IsAnswerEffect running octets after event =
    (given : Answer) × IsPrintable given × (octets ≡ text_of_answer given) × MayBeSent running given
    × (after ≡ running_after running given) × (event ≡ event_of given)

-- A frame or answer, and who sent it.
pub record SentOctets : Type 0 where
  pub speaker : Speaker
  pub octets : List ℕ

abbrev pub IsSentEffect : List RunningCommand → Speaker → List ℕ → List RunningCommand → SlotEvent
    → Type 0
IsSentEffect running Client frame after event = IsFrameEffect running frame after event
IsSentEffect running Server octets after event = IsAnswerEffect running octets after event

-- The events of a session's transcript: every answer is printed, and EXPUNGE is sent only when it
-- may be.
abbrev pub AreEvents : List RunningCommand → List SentOctets → List SlotEvent → Type 0
AreEvents running [] events = events ≡ []
AreEvents running (sent ∷ more) events =
    (after : List RunningCommand) × (event : SlotEvent) × (rest : List SlotEvent)
    × IsSentEffect running sent.speaker sent.octets after event
    × (events ≡ event ∷ rest)
    × AreEvents after more rest

-- A session's transcript is explained.
abbrev pub IsExplainedTranscript : List SentOctets → Type 0
IsExplainedTranscript sent =
    (events : List SlotEvent) × AreEvents [] sent events × IsExplained events
