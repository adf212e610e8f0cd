-- Whose log it is.

use Rattle.std.specs.Prelude.{◌≡◌, ℕ, Bool, true, false, ◌==◌, List, [], ◌∷◌, Option, Some, None}
use Rattle.std.specs.Prelude.{if◌then◌else◌}
use Rattle.op_log.specs.declared.entry.Entry.{Entry}
use Rattle.op_log.specs.declared.entry.Entry.TheVariants.{Begin, Apply, Commit}

-- Whether the first line names a replica.
abbrev pub has_first_line : List Entry → Bool
has_first_line [] = false
has_first_line (Begin replica ∷ entries) = true
has_first_line (Apply op ∷ entries) = false
has_first_line (Commit synced ∷ entries) = false

-- The first replica other than this one that a line names.
abbrev pub other_replica : ℕ → List Entry → Option ℕ
other_replica replica [] = None
other_replica replica (Begin name ∷ entries) =
    if name == replica then other_replica replica entries else Some name
other_replica replica (Apply op ∷ entries) = other_replica replica entries
other_replica replica (Commit synced ∷ entries) = other_replica replica entries

-- The entries are of a log of this replica: the first names it, and none names another.
pub record IsLogOf (replica : ℕ) (entries : List Entry) : Type 0 where
  pub begins : has_first_line entries ≡ true
  pub no_other : other_replica replica entries ≡ None
