-- Lists of entries by ascending UID (RFC 9051, section 2.3.1.1), and indexes from origins to UIDs.

use Rattle.std.specs.Prelude.{◌≡◌, ℕ, ◌+◌, ◌<◌, ◌≤◌, ◌==◌, ◌&&◌, Bool, false, List, []}
use Rattle.std.specs.Prelude.{◌∷◌, Option, Some, None, length, get_or}
use Rattle.std.specs.Map.{lookup}
use Rattle.tags_clocks.specs.declared.id.OpId.{OpId}
use Rattle.mailbox_rows.specs.declared.entry.ListingEntry.{ListingEntry}
pub use Rattle.modseq_index.specs.Edges.{IsEdge}

-- Whether two ids are the same.
abbrev pub is_id : OpId → OpId → Bool
is_id a b = (a.replica == b.replica) && (a.number == b.number)

-- The UIDs ascend strictly, the first of them at least `low`.
abbrev pub AreRising : ℕ → List ListingEntry → Type 0
AreRising low [] = Unit {0}
AreRising low (e ∷ es) = (low ≤ e.uid) × AreRising (e.uid + 1) es

-- The UIDs are below this number.
abbrev pub AreBelow : ℕ → List ListingEntry → Type 0
AreBelow uid [] = Unit {0}
AreBelow uid (e ∷ es) = (e.uid < uid) × AreBelow uid es

-- No entry has this origin.
abbrev pub Lacks : OpId → List ListingEntry → Type 0
Lacks origin [] = Unit {0}
Lacks origin (e ∷ es) = (is_id origin e.origin ≡ false) × Lacks origin es

-- The entry at this place has this origin.
pub record IsAt (origin : OpId) (es : List ListingEntry) (at : ℕ) : Type 0 where
  pub within : at < length es
  pub has_origin : (d : ListingEntry) → (get_or es at d).origin ≡ origin

-- The index has the UID of each entry under its origin.
abbrev pub AreIndexed : (OpId → Option ℕ) → List ListingEntry → Type 0
AreIndexed f [] = Unit {0}
AreIndexed f (e ∷ es) = (f e.origin ≡ Some e.uid) × AreIndexed f es

-- The index has the UID of each entry under its origin, and nothing else.
pub record IsUidIndex (f : OpId → Option ℕ) (es : List ListingEntry) : Type 0 where
  pub indexed : AreIndexed f es
  pub only : (origin : OpId) → Lacks origin es → f origin ≡ None

-- The value of a map under an origin.
abbrev pub indexed_value : {X : Type 0} → List (OpId × X) → OpId → Option X
indexed_value keys origin = lookup (is_id origin) keys

-- The first value if there is one, else the second.
abbrev pub first_of : {X : Type 0} → Option X → Option X → Option X
first_of (Some x) other = Some x
first_of None other = other

abbrev pub indexed_over : List (OpId × ℕ) → List (OpId × ℕ) → OpId → Option ℕ
indexed_over own stored origin = first_of (indexed_value own origin) (indexed_value stored origin)

-- No entry with this UID has this origin.
abbrev pub LacksAt : ℕ → OpId → List ListingEntry → Type 0
LacksAt uid origin [] = Unit {0}
LacksAt uid origin (e ∷ es) = (e.uid ≡ uid → is_id origin e.origin ≡ false) × LacksAt uid origin es
