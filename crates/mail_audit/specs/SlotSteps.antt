-- The auditor's knowledge of a session's messages, and how each event changes it.

use Rattle.std.specs.Prelude.{ℕ, ◌-◌, ◌≤◌, List, [], ◌∷◌, ◌++◌, Option, Some, None, length, get_or}
use Rattle.std.specs.Prelude.{set, replicate}
use Rattle.mail_audit.specs.declared.event.SlotEvent.{SlotEvent}
use Rattle.mail_audit.specs.declared.event.SlotEvent.TheVariants.{Selects, Exists, Expunge, Names}
use Rattle.mail_audit.specs.declared.event.SlotEvent.TheVariants.{ReportsUid, Passes}
use Rattle.mail_audit.specs.Explanations.{IsNumberOf, without}
use Rattle.mail_audit.specs.EventPasses.{HasRoomAbove, MayBeUid, numbers_upward}

-- The knowledge of a session's messages: the places of the existing ones, and for each place its
-- reported UID, if any.
pub record SlotKnowledge : Type 0 where
  pub live : List ℕ
  pub slots : List (Option ℕ)

-- This number of further messages arrived.
abbrev pub with_more : SlotKnowledge → ℕ → SlotKnowledge
with_more known m =
    record {
      live = known.live ++ numbers_upward (length known.slots) m;
      slots = known.slots ++ replicate m None;
    }

-- The place of a message number.
abbrev pub place_at : SlotKnowledge → ℕ → ℕ
place_at known k = get_or known.live (k - 1) 0

abbrev pub with_uid : SlotKnowledge → ℕ → ℕ → SlotKnowledge
with_uid known k uid = record known { slots = set known.slots (place_at known k) (Some uid) }

-- The knowledge after an event.
abbrev pub after_event : SlotKnowledge → SlotEvent → SlotKnowledge
after_event known Selects = record { live = []; slots = [] }
after_event known (Exists n) = with_more known (n - length known.live)
after_event known (Expunge k) = record known { live = without k known.live }
after_event known (Names k) = known
after_event known (ReportsUid k uid) = with_uid known k uid
after_event known Passes = known

-- The event fits the knowledge.
abbrev pub EventFits : SlotKnowledge → SlotEvent → Type 0
EventFits known Selects = Unit {0}
EventFits known (Exists n) =
    (length known.live ≤ n) × HasRoomAbove 0 (with_more known (n - length known.live)).slots
EventFits known (Expunge k) = IsNumberOf k known.live
EventFits known (Names k) = IsNumberOf k known.live
EventFits known (ReportsUid k uid) =
    IsNumberOf k known.live
    × MayBeUid (get_or known.slots (place_at known k) None) uid
    × HasRoomAbove 0 (with_uid known k uid).slots
EventFits known Passes = Unit {0}

-- The knowledge after events.
abbrev pub after_events : SlotKnowledge → List SlotEvent → SlotKnowledge
after_events known [] = known
after_events known (event ∷ events) = after_events (after_event known event) events

abbrev pub no_slots : SlotKnowledge
no_slots = record { live = []; slots = [] }
