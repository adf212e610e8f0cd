-- How the auditor decides, event by event; the law `explained_if_it_passes` says that it decides
-- `IsExplained`.

use Rattle.std.specs.Prelude.{◌≡◌, ℕ, zero, suc, ◌+◌, ◌-◌, ◌<◌, ◌≤◌, List, [], ◌∷◌, ◌++◌, Option}
use Rattle.std.specs.Prelude.{Some, None, length, get_or, set, replicate}
use Rattle.mail_audit.specs.declared.event.SlotEvent.{SlotEvent}
use Rattle.mail_audit.specs.declared.event.SlotEvent.TheVariants.{Selects, Exists, Expunge, Names}
use Rattle.mail_audit.specs.declared.event.SlotEvent.TheVariants.{ReportsUid, Passes}
use Rattle.mail_audit.specs.Explanations.{IsNumberOf, without}

-- Above this UID, UIDs are left for all slots whose UIDs aren't known.
abbrev pub HasRoomAbove : ℕ → List (Option ℕ) → Type 0
HasRoomAbove low [] = Unit {0}
HasRoomAbove low (None ∷ slots) = (low < 4294967295) × HasRoomAbove (low + 1) slots
HasRoomAbove low (Some uid ∷ slots) = (low < uid) × (uid ≤ 4294967295) × HasRoomAbove uid slots

-- The UID agrees with what is known of a slot.
abbrev pub MayBeUid : Option ℕ → ℕ → Type 0
MayBeUid None uid = Unit {0}
MayBeUid (Some known) uid = uid ≡ known

-- Consecutive numbers: the first, and how many there are.
abbrev pub numbers_upward : ℕ → ℕ → List ℕ
numbers_upward from zero = []
numbers_upward from (suc count) = from ∷ numbers_upward (suc from) count

-- The events fit the slots so far, of which those at the places `live` exist, and leave UIDs for
-- all slots.
abbrev pub PassesFrom : List ℕ → List (Option ℕ) → List SlotEvent → Type 0
PassesFrom live slots [] = Unit {0}
PassesFrom live slots (Selects ∷ events) = PassesFrom [] [] events
PassesFrom live slots (Exists n ∷ events) =
    (length live ≤ n)
    × HasRoomAbove 0 (slots ++ replicate (n - length live) None)
    × PassesFrom (live ++ numbers_upward (length slots) (n - length live))
    (slots ++ replicate (n - length live) None) events
PassesFrom live slots (Expunge k ∷ events) =
    IsNumberOf k live × PassesFrom (without k live) slots events
PassesFrom live slots (Names k ∷ events) = IsNumberOf k live × PassesFrom live slots events
PassesFrom live slots (ReportsUid k uid ∷ events) =
    IsNumberOf k live
    × MayBeUid (get_or slots (get_or live (k - 1) 0) None) uid
    × HasRoomAbove 0 (set slots (get_or live (k - 1) 0) (Some uid))
    × PassesFrom live (set slots (get_or live (k - 1) 0) (Some uid)) events
PassesFrom live slots (Passes ∷ events) = PassesFrom live slots events
