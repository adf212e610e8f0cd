-- How the auditor takes a session, line by line. `IsExplainedTranscript` defines the meaning of its
-- yes, and lemmas connect the two.

use Rattle.std.specs.Prelude.{◌≡◌, Bool, true, false, List, [], ◌∷◌}
use Rattle.mail_audit.specs.declared.event.SlotEvent.{SlotEvent}
use Rattle.mail_audit.specs.declared.in_progress.RunningCommand.{RunningCommand}
use Rattle.mail_audit.specs.SlotSteps.{EventFits, SlotKnowledge, after_event, no_slots}
use Rattle.mail_audit.specs.Transcripts.{IsSentEffect, SentOctets}

-- The knowledge of a session: the commands in progress, and its messages.
pub record SessionKnowledge : Type 0 where
  pub running : List RunningCommand
  pub known : SlotKnowledge

-- The knowledge of a session in which nothing was sent.
abbrev pub nothing_known : SessionKnowledge
nothing_known = record { running = []; known = no_slots }

-- The octets that were sent can follow the knowledge of a session, and lead to this new knowledge.
abbrev pub TakesSent : SessionKnowledge → SentOctets → SessionKnowledge → Type 0
TakesSent old sent new =
    (event : SlotEvent)
    × IsSentEffect old.running sent.speaker sent.octets new.running event
    × EventFits old.known event
    × (new.known ≡ after_event old.known event)

-- The octets that were sent can't follow the knowledge of a session.
abbrev pub RejectsSent : SessionKnowledge → SentOctets → Type 0
RejectsSent old sent =
    (after : List RunningCommand) (event : SlotEvent)
    → IsSentEffect old.running sent.speaker sent.octets after event → EventFits old.known event
    → ⊥

-- Whether the octets that were sent can follow the knowledge of a session; if so, this is the new
-- knowledge.
abbrev pub DecidesSent : SessionKnowledge → SentOctets → Bool → SessionKnowledge → Type 0
DecidesSent old sent true new = TakesSent old sent new
DecidesSent old sent false new = RejectsSent old sent

-- All that was sent can follow, one after another.
abbrev pub TakesAllSent : SessionKnowledge → List SentOctets → SessionKnowledge → Type 0
TakesAllSent old [] new = new ≡ old
TakesAllSent old (sent ∷ more) new =
    (mid : SessionKnowledge) × TakesSent old sent mid × TakesAllSent mid more new
