-- How much a peer lacks.

use Rattle.std.specs.Prelude.{ℕ, ◌-◌, List}
use Rattle.std.specs.List.{sum_by}
use Rattle.tags_clocks.specs.Clock.{count_of}

-- How many operations the first clock covers and the second one doesn't: of each replica, those
-- that the first counts beyond the second.
abbrev pub lacked_ops : List (ℕ × ℕ) → List (ℕ × ℕ) → ℕ
lacked_ops own covered = sum_by (λ entry. entry.1 - count_of covered entry.0) own
