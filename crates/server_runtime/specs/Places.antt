-- The places of a replica's peers.

use Rattle.std.specs.Prelude.{◌==◌, ℕ, not, List}
use Rattle.std.specs.List.{filter, range_with_len}

-- The places below `places` but `own`, ascending.
abbrev pub all_but : ℕ → ℕ → List ℕ
all_but own places = filter (λ place. not (place == own)) (range_with_len 0 places)
