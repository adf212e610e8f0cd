-- The secret that a file's octets are.

use Rattle.std.specs.Prelude.{◌≡◌, ◌≤◌, ◌==◌, ◌-◌, ℕ, List, [], ◌∷◌, ◌++◌, if◌then◌else◌, length}
use Rattle.std.specs.Prelude.{get_or, take}

-- The octets without an LF (10) at the end.
abbrev pub without_final_lf : List ℕ → List ℕ
without_final_lf octets =
    if get_or octets (length octets - 1) 0 == 10 then take (length octets - 1) octets else octets

-- A secret has 32 to 1,024 octets.
abbrev pub IsSecret : List ℕ → Type 0
IsSecret secret = (32 ≤ length secret) × (length secret ≤ 1024)

-- The octets of a file, but for an LF at the end, are a secret.
abbrev pub IsSecretOf : List ℕ → List ℕ → Type 0
IsSecretOf octets secret = (secret ≡ without_final_lf octets) × IsSecret secret
