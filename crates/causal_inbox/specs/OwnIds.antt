-- The least of the ids of operations that name a given replica.

use Rattle.std.specs.Prelude.{◌≡◌, ◌⊎◌, ℕ, List, Option, None, Some}
use Rattle.tags_clocks.specs.declared.id.OpId.{OpId}
use Rattle.causal_inbox.specs.Inbox.{IsLess}
use Rattle.merge_laws.specs.Orders.{HasId}

-- One of the operations has this id, and the id names this replica.
abbrev pub IsOwn : {O : Type 0} → (O → OpId) → ℕ → List O → OpId → Type 0
IsOwn id_of name ops id = HasId id_of ops id × (id.replica ≡ name)

-- The least of the operations' ids that name this replica; none if none does.
abbrev pub IsLeastOwn : {O : Type 0} → (O → OpId) → ℕ → List O → Option OpId → Type 0
IsLeastOwn id_of name ops None = (id : OpId) → ¬ IsOwn id_of name ops id
IsLeastOwn id_of name ops (Some id) =
    IsOwn id_of name ops id × ((other : OpId) → IsOwn id_of name ops other → ¬ IsLess other id)

-- The id names this replica, and is less than the other id if there is one.
abbrev pub Precedes : ℕ → OpId → Option OpId → Type 0
Precedes name id None = id.replica ≡ name
Precedes name id (Some other) = (id.replica ≡ name) × IsLess id other

-- The new id is this id if it precedes the old one, otherwise the old one.
abbrev pub IsLesserOwn : ℕ → OpId → Option OpId → Option OpId → Type 0
IsLesserOwn name id old new =
    (Precedes name id old × (new ≡ Some id)) ⊎ ((¬ Precedes name id old) × (new ≡ old))
