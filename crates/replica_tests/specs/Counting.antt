-- If a counter has room below its limit for a list of operations, it has room for the first: the
-- proof that `Follower::first` requires of the counting follower of `refusals`.

use Rattle.std.specs.Prelude.{ℕ, ◌+◌, ◌≤◌, suc}
use Rattle.std.proofs.Common.{suc-le-suc, zero-le}
use Rattle.std.proofs.Math.Nat.{add-le-add, le_refl, le_trans}

-- If there is room for `suc rest` operations, there is room for one.
pub first_fits : (noted rest limit : ℕ) → noted + suc rest ≤ limit → noted + 1 ≤ limit
first_fits noted rest limit fits = le_trans (add-le-add (le_refl noted) (suc-le-suc zero-le)) fits
