-- Explained transcripts: when the events of a session can be right (RFC 9051, sections 2.3.1.1,
-- 7.4.1, 7.5.1 and 7.5.2).

use Rattle.std.specs.Prelude.{◌≡◌, ℕ, ◌+◌, ◌-◌, ◌<◌, ◌≤◌, List, [], ◌∷◌, ◌++◌, length, get_or, take}
use Rattle.std.specs.Prelude.{drop}
use Rattle.mail_audit.specs.declared.event.SlotEvent.{SlotEvent}
use Rattle.mail_audit.specs.declared.event.SlotEvent.TheVariants.{Selects, Exists, Expunge, Names}
use Rattle.mail_audit.specs.declared.event.SlotEvent.TheVariants.{ReportsUid, Passes}

-- Strictly ascending 32-bit UIDs above a number (RFC 9051, section 2.3.1.1).
abbrev pub AreUidsAbove : ℕ → List ℕ → Type 0
AreUidsAbove low [] = Unit {0}
AreUidsAbove low (uid ∷ uids) = (low < uid) × (uid ≤ 4294967295) × AreUidsAbove uid uids

-- A message number of these messages.
abbrev pub IsNumberOf : ℕ → List ℕ → Type 0
IsNumberOf k live = (0 < k) × (k ≤ length live)

-- The messages without the one of this number (RFC 9051, section 7.5.1).
abbrev pub without : ℕ → List ℕ → List ℕ
without k live = take (k - 1) live ++ drop k live

-- The events fit if the existing messages have these UIDs, and later ones get the next.
abbrev pub AreFitting : List ℕ → List ℕ → List SlotEvent → Type 0
AreFitting live later [] = Unit {0}
AreFitting live later (Selects ∷ events) =
    (uids : List ℕ) × AreUidsAbove 0 uids × AreFitting [] uids events
AreFitting live later (Exists n ∷ events) =
    (length live ≤ n)
    × (n ≤ length live + length later)
    × AreFitting (live ++ take (n - length live) later) (drop (n - length live) later) events
AreFitting live later (Expunge k ∷ events) =
    IsNumberOf k live × AreFitting (without k live) later events
AreFitting live later (Names k ∷ events) = IsNumberOf k live × AreFitting live later events
AreFitting live later (ReportsUid k uid ∷ events) =
    IsNumberOf k live × (get_or live (k - 1) 0 ≡ uid) × AreFitting live later events
AreFitting live later (Passes ∷ events) = AreFitting live later events

-- UIDs can be assigned to all messages, expunged ones included, so that every event fits.
abbrev pub IsExplained : List SlotEvent → Type 0
IsExplained events = (uids : List ℕ) × AreUidsAbove 0 uids × AreFitting [] uids events
