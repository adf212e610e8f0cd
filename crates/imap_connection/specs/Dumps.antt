-- The text of a replica's dump: its applied operations, and what the set of them defines.

use Rattle.std.specs.Prelude.{◌≡◌, ℕ, ◌==◌, List, [], ◌∷◌, ◌++◌, codes, if◌then◌else◌}
use Rattle.std.specs.Fmt.{decimal}
use Rattle.std.specs.List.{flat_map}
use Rattle.causal_inbox.specs.Inbox.{AreAscending}
use Rattle.crdt_ops.specs.declared.op.Op.{Op}
use Rattle.crdt_ops.specs.DumpLines.{op_line, state_text}
use Rattle.merge_laws.specs.Orders.{HaveSameElements}
use Rattle.crdt_ops.specs.Ops.{id_of}

-- The text is the dump of a replica that applied these operations: the operations, each once,
-- ascending by replica and then by number, and what the set of them defines.
abbrev pub IsDump : ℕ → List Op → List ℕ → Type 0
IsDump replica applied text =
    (listed : List Op)
    × AreAscending id_of listed
    × HaveSameElements listed applied
    × (text
    ≡ codes "dump " ++ decimal replica ++ 10 ∷ [] ++ flat_map op_line listed ++ state_text applied
    ++ codes "end" ++ 10 ∷ [])

-- ---- what the code writes, part by part

-- The line of an operation, if this replica issued it.
abbrev pub own_line : ℕ → Op → List ℕ
own_line replica op = if op.id.replica == replica then op_line op else []

-- The lines of one replica's operations in a list, in its order.
abbrev pub op_lines_by : List Op → ℕ × ℕ → List ℕ
op_lines_by ops entry = flat_map (own_line entry.0) ops
