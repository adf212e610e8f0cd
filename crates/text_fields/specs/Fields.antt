-- The texts of fields: replicas, numbers and ids of operations, and entries of clocks.

use Rattle.std.specs.Prelude.{ℕ, ◌<◌, ◌≤◌, List, ◌∷◌, ◌++◌}
use Rattle.std.specs.Fmt.{decimal}
use Rattle.tags_clocks.specs.declared.id.OpId.{OpId}

-- A replica's number.
abbrev pub IsReplica : ℕ → Type 0
IsReplica replica = (0 < replica) × (replica ≤ 65535)

-- The number of an operation among those of its replica.
abbrev pub IsNumber : ℕ → Type 0
IsNumber number = (0 < number) × (number ≤ 4294967295)

-- An id that can be written.
abbrev pub IsId : OpId → Type 0
IsId id = IsReplica id.replica × IsNumber id.number

-- An entry of a clock that can be written.
abbrev pub IsEntry : ℕ × ℕ → Type 0
IsEntry entry = IsReplica entry.0 × IsNumber entry.1

-- An id: the replica, `:` (58), the number.
abbrev pub id_text : OpId → List ℕ
id_text id = decimal id.replica ++ 58 ∷ decimal id.number

-- An entry of a clock: the replica, `=` (61), the number.
abbrev pub entry_text : ℕ × ℕ → List ℕ
entry_text entry = decimal entry.0 ++ 61 ∷ decimal entry.1
