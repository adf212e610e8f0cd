-- Operations and their parts, as definitions name them.

use Rattle.std.specs.Prelude.{ℕ, List}
use Rattle.tags_clocks.specs.declared.id.OpId.{OpId}
use Rattle.crdt_ops.specs.declared.op.Op.{Op}

-- An operation's id, and the clock that it bears.
abbrev pub id_of : Op → OpId
id_of op = op.id

abbrev pub clock_of : Op → List (ℕ × ℕ)
clock_of op = op.clock
