-- Sets of numbers as runs: the fewest ranges that name them (RFC 9051, section 9, sequence-set).

use Rattle.std.specs.Prelude.{ℕ, suc, ◌+◌, ◌-◌, Bool, true, ◌&&◌, ◌==◌, ◌≤◌, nat_le, List, [], ◌∷◌}
use Rattle.std.specs.Prelude.{max, if◌then◌else◌, flat_map}
use Rattle.std.specs.List.{range_with_len}
use Rattle.imap_types.specs.declared.number_set.Run.{Run}

-- Numbers from `low`, each above those before it.
abbrev pub AreRisingFrom : ℕ → List ℕ → Type 0
AreRisingFrom low [] = Unit {0}
AreRisingFrom low (n ∷ ns) = (low ≤ n) × AreRisingFrom (n + 1) ns

-- The greatest of these numbers; 0 if there are none.
abbrev pub greatest : List ℕ → ℕ
greatest [] = 0
greatest (n ∷ ns) = max n (greatest ns)

-- The numbers of a run, both ends included.
abbrev pub numbers_of : Run → List ℕ
numbers_of run = range_with_len run.first (suc (run.last - run.first))

-- The numbers of all these runs.
abbrev pub numbers_in : List Run → List ℕ
numbers_in runs = flat_map numbers_of runs

-- The runs of a number and of the runs above it: the number extends the first run if that begins
-- just above it.
abbrev pub with_number : ℕ → List Run → List Run
with_number n [] = record { first = n; last = n } ∷ []
with_number n (run ∷ runs) =
    if n + 1 == run.first then record { first = n; last = run.last } ∷ runs
    else record { first = n; last = n } ∷ run ∷ runs

-- Rising numbers as the fewest runs (RFC 9051, section 9, sequence-set).
abbrev pub runs_of : List ℕ → List Run
runs_of [] = []
runs_of (n ∷ ns) = with_number n (runs_of ns)

-- Runs from `low`, each with a gap before the next.
abbrev pub AreRunsFrom : ℕ → List Run → Type 0
AreRunsFrom low [] = Unit {0}
AreRunsFrom low (run ∷ runs) =
    (low ≤ run.first) × (run.first ≤ run.last) × AreRunsFrom (run.last + 2) runs

-- Whether runs are runs from `low`, each with a gap before the next.
abbrev pub are_runs_from : ℕ → List Run → Bool
are_runs_from low [] = true
are_runs_from low (run ∷ runs) =
    nat_le low run.first && nat_le run.first run.last && are_runs_from (run.last + 2) runs
