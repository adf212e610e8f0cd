-- How the auditor decides, from only the known neighbours of a UID, whether UIDs are left.

use Rattle.std.specs.Prelude.{◌≡◌, ℕ, zero, suc, true, false, ltb, ◌+◌, ◌-◌, ◌<◌, ◌≤◌, List, []}
use Rattle.std.specs.Prelude.{◌∷◌, drop}
use Rattle.std.specs.List.Sorted.{IsPartitionPoint}
use Rattle.mail_audit.specs.declared.slots.KnownUid.{KnownUid}

-- After the last known UID, UIDs are left for all `total` messages.
abbrev pub HasRoomFor : ℕ → ℕ → List KnownUid → ℕ → Type 0
HasRoomFor low from [] total = low + (total - from) ≤ 4294967295
HasRoomFor low from (this ∷ rest) total = HasRoomFor this.uid (this.place + 1) rest total

-- UIDs are left between the previous known UID, the last of the first `at`, and this one.
abbrev pub FitsAfter : ℕ → ℕ → ℕ → List KnownUid → KnownUid → Type 0
FitsAfter low from zero entries this = low + (this.place - from) < this.uid
FitsAfter low from (suc at) [] this = low + (this.place - from) < this.uid
FitsAfter low from (suc at) (first ∷ rest) this = FitsAfter first.uid (first.place + 1) at rest this

-- UIDs are left between this UID and the next known one, or, if none follows, for all later
-- messages.
abbrev pub FitsBefore : KnownUid → List KnownUid → ℕ → Type 0
FitsBefore this [] total = this.uid + (total - (this.place + 1)) ≤ 4294967295
FitsBefore this (next ∷ rest) total = this.uid + (next.place - (this.place + 1)) < next.uid

-- UIDs are left on either side of a UID that follows the first `at` known ones.
abbrev pub FitsAt : ℕ → ℕ → ℕ → List KnownUid → KnownUid → ℕ → Type 0
FitsAt low from at entries this total =
    FitsAfter low from at entries this × FitsBefore this (drop at entries) total

-- Exactly `at` known UIDs have lower places.
abbrev pub SplitsAt : ℕ → List KnownUid → ℕ → Type 0
SplitsAt place entries at =
    IsPartitionPoint (λ (t : KnownUid). ltb t.place place ≡ true) (λ t. ltb t.place place ≡ false)
    entries at

-- No UID of this place is known, and `at` known UIDs have lower places.
abbrev pub IsUidUnknown : ℕ → ℕ → List KnownUid → Type 0
IsUidUnknown zero place [] = Unit {0}
IsUidUnknown zero place (t ∷ entries) = place < t.place
IsUidUnknown (suc at) place [] = ⊥
IsUidUnknown (suc at) place (t ∷ entries) = (t.place < place) × IsUidUnknown at place entries

-- This UID of this place is known, and `at` known UIDs have lower places.
abbrev pub IsUidKnown : ℕ → ℕ → ℕ → List KnownUid → Type 0
IsUidKnown at place uid [] = ⊥
IsUidKnown zero place uid (t ∷ entries) = (t.place ≡ place) × (t.uid ≡ uid)
IsUidKnown (suc at) place uid (t ∷ entries) = (t.place < place) × IsUidKnown at place uid entries
