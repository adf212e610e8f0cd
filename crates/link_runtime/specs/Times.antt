-- When something is due on a link, and how long a dialer waits. Times are milliseconds.

use Rattle.std.specs.Prelude.{◌≡◌, ◌<◌, ◌≤◌, ℕ, ◌+◌, ◌*◌, ◌/◌, min}

-- A time so much later, or the last one that can be counted.
abbrev pub later : ℕ → ℕ → ℕ
later now time = min (now + time) 18446744073709551615

-- Twice the time, and a minute at most.
abbrev pub doubled : ℕ → ℕ
doubled time = min 60000 (2 * time)

-- A time between waits is a second at least and a minute at most.
abbrev pub IsBetweenWaits : ℕ → Type 0
IsBetweenWaits time = (1000 ≤ time) × (time ≤ 60000)
