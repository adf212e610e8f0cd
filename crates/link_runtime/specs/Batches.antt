-- How many operations are sent in one frame.

use Rattle.std.specs.Prelude.{◌≡◌, ◌≤◌, ◌<◌, ◌+◌, ◌⊎◌, ℕ, List, length, take}
use Rattle.crdt_ops.specs.declared.op.Op.{Op}
use Rattle.op_log.specs.LineBounds.{lines_bound}

-- Of these operations, so many are sent in one frame, in their order: 256 at most, and so many that
-- their lines have 1 MiB at most by the bounds of each, or one; and as many as these limits allow.
pub record IsFrameLimit (ops : List Op) (count : ℕ) : Type 0 where
  pub within : count ≤ length ops
  pub few : count ≤ 256
  pub small : 1 < count → lines_bound (take count ops) ≤ 1048576
  pub most : count < length ops
      → (count ≡ 256) ⊎ ((0 < count) × (1048576 < lines_bound (take (count + 1) ops)))
