-- What a reader noted of its peer's clock.

use Rattle.std.specs.Prelude.{◌≡◌, ℕ, List, [], Option, None, Some}
use Rattle.tags_clocks.specs.Clock.{IsJoin, IsRaised}
use Rattle.tags_clocks.specs.declared.id.OpId.{OpId}

-- The clock covers what this one covers too; there was none before.
abbrev pub HasJoined : Option (List (ℕ × ℕ)) → List (ℕ × ℕ) → Option (List (ℕ × ℕ)) → Type 0
HasJoined None more new = new ≡ Some more
HasJoined (Some old) more new = (joined : List (ℕ × ℕ)) × (new ≡ Some joined) × IsJoin old more joined

-- The clock covers this operation too.
abbrev pub HasRaised : Option (List (ℕ × ℕ)) → OpId → Option (List (ℕ × ℕ)) → Type 0
HasRaised None id new =
    (raised : List (ℕ × ℕ)) × (new ≡ Some raised) × IsRaised [] id.replica id.number raised
HasRaised (Some old) id new =
    (raised : List (ℕ × ℕ)) × (new ≡ Some raised) × IsRaised old id.replica id.number raised
