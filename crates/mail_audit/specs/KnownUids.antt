-- How the auditor stores its knowledge of a session's messages: their total, the places of expunged
-- ones, and the places and UIDs of those with reported UIDs.

use Rattle.std.specs.Prelude.{ℕ, ◌+◌, ◌-◌, ◌<◌, ◌≤◌, List, [], ◌∷◌, ◌++◌, Option, Some, None}
use Rattle.std.specs.Prelude.{replicate}
use Rattle.mail_audit.specs.EventPasses.{numbers_upward}
use Rattle.mail_audit.specs.declared.slots.KnownUid.{KnownUid}

-- The places from `from` up to the total, without the expunged ones.
abbrev pub places_from : ℕ → List ℕ → ℕ → List ℕ
places_from from [] total = numbers_upward from (total - from)
places_from from (expunged ∷ rest) total =
    numbers_upward from (expunged - from) ++ places_from (expunged + 1) rest total

-- The places of expunged messages ascend from `from`, below the total.
abbrev pub AreExpunged : ℕ → List ℕ → ℕ → Type 0
AreExpunged from [] total = from ≤ total
AreExpunged from (expunged ∷ rest) total = (from ≤ expunged) × AreExpunged (expunged + 1) rest total

-- The slots from `from` up to the total, each with its reported UID, if any.
abbrev pub slots_from : ℕ → List KnownUid → ℕ → List (Option ℕ)
slots_from from [] total = replicate (total - from) None
slots_from from (entry ∷ rest) total =
    replicate (entry.place - from) None ++ Some entry.uid ∷ slots_from (entry.place + 1) rest total

-- The places with reported UIDs ascend from `from`, below the total.
abbrev pub ArePlaces : ℕ → List KnownUid → ℕ → Type 0
ArePlaces from [] total = from ≤ total
ArePlaces from (entry ∷ rest) total = (from ≤ entry.place) × ArePlaces (entry.place + 1) rest total

-- Between neighbouring known UIDs, a UID is left for each slot between their places.
abbrev pub HaveGaps : ℕ → ℕ → List KnownUid → ℕ → Type 0
HaveGaps low from [] total = low + (total - from) ≤ 4294967295
HaveGaps low from (entry ∷ rest) total =
    (low + (entry.place - from) < entry.uid)
    × (entry.uid ≤ 4294967295)
    × HaveGaps entry.uid (entry.place + 1) rest total

-- The invariant of the stored places and UIDs.
pub record AreKnownUids (expunged : List ℕ) (entries : List KnownUid) (total : ℕ) : Type 0 where
  pub expunged_ascend : AreExpunged 0 expunged total
  pub places_ascend : ArePlaces 0 entries total
  pub gaps : HaveGaps 0 0 entries total
