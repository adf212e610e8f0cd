-- Ranks of times, and the rate of commands.

use Rattle.std.specs.Prelude.{ℕ, ◌+◌, ◌-◌, ◌*◌, ◌/◌, ◌==◌, if◌then◌else◌, min, List, [], ◌∷◌}
use Rattle.std.specs.Prelude.{Option, Some, None, length, slice_index}
use Rattle.mail_bench.specs.declared.times.Summary.{Summary}

-- The nearest rank of a percentage: the least whole number that isn't below percent * count / 100.
abbrev pub rank : ℕ → ℕ → ℕ
rank percent count = (percent * count + 99) / 100

-- The time at a percentage's rank, of times in ascending order; the first has rank 1.
abbrev pub time_at : List ℕ → ℕ → ℕ
time_at times percent = slice_index times (rank percent (length times) - 1)

-- The summary of times in ascending order.
abbrev pub summary : List ℕ → Summary
summary times =
    record {
      least = slice_index times 0;
      median = time_at times 50;
      ninetieth = time_at times 90;
      ninety_ninth = time_at times 99;
      greatest = slice_index times (length times - 1);
    }

abbrev pub summary_of : List ℕ → Option Summary
summary_of [] = None
summary_of (time ∷ times) = Some (summary (time ∷ times))

-- Commands per second, from a number of commands and of microseconds; 0 if no microsecond passed. A
-- product of more than 64 bits is capped at the greatest number of 64 bits.
abbrev pub rate : ℕ → ℕ → ℕ
rate commands micros =
    if micros == 0 then 0 else min (commands * 1000000) 18446744073709551615 / micros
