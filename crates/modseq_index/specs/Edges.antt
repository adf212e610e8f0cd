-- The place at which a test that passes at first begins to fail.

use Rattle.std.specs.Prelude.{◌≡◌, ℕ, ◌-◌, ◌<◌, Bool, true, false}

-- The edge of a test on `count` places: it passes just before `at` and fails at `at`, if those
-- places exist.
pub record IsEdge (test : ℕ → Bool) (count at : ℕ) : Type 0 where
  pub pass : 0 < at → test (at - 1) ≡ true
  pub fail : at < count → test at ≡ false
