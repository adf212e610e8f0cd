-- The order of two clocks, as `Clock::compare` gives it.

use Rattle.std.specs.Prelude.{ℕ, List}
use Rattle.tags_clocks.specs.declared.clock.ClockOrder.{ClockOrder}
use Rattle.tags_clocks.specs.declared.clock.ClockOrder.TheVariants.{Before, After, Equal}
use Rattle.tags_clocks.specs.declared.clock.ClockOrder.TheVariants.{Concurrent}
use Rattle.tags_clocks.specs.Clock.{IsCoveredBy}

-- The order of the two: `Before` if only `es` is covered by the other, `After` if only `fs` is,
-- `Equal` if both are, `Concurrent` if neither is.
abbrev pub Compares : ClockOrder → List (ℕ × ℕ) → List (ℕ × ℕ) → Type 0
Compares Before es fs = IsCoveredBy es fs × ¬ IsCoveredBy fs es
Compares After es fs = (¬ IsCoveredBy es fs) × IsCoveredBy fs es
Compares Equal es fs = IsCoveredBy es fs × IsCoveredBy fs es
Compares Concurrent es fs = (¬ IsCoveredBy es fs) × ¬ IsCoveredBy fs es
