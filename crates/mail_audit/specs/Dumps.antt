-- Right dumps: the form that a replica's dump must have.

use Rattle.std.specs.Prelude.{◌≡◌, ℕ, List, [], ◌∷◌, ◌++◌, codes}
use Rattle.std.specs.Fmt.{decimal}
use Rattle.std.specs.List.{flat_map}
use Rattle.tags_clocks.specs.declared.id.OpId.{OpId}
use Rattle.tags_clocks.specs.Clock.{IsCause}
use Rattle.merge_laws.specs.Orders.{AreSound, HasId, IsIn}
use Rattle.crdt_ops.specs.declared.op.Op.{Op}
use Rattle.crdt_ops.specs.Form.{IsInForm, IsReplica}
use Rattle.crdt_ops.specs.SortedSets.{IsAscending, id_order}
use Rattle.crdt_ops.specs.Sound.{IsSound}
use Rattle.crdt_ops.specs.DumpLines.{op_line, state_text}
use Rattle.crdt_ops.specs.Ops.{id_of}

-- The first line of a replica's dump.
abbrev pub dump_line : ℕ → List ℕ
dump_line replica = codes "dump " ++ decimal replica

-- The list has an operation for each cause of its operations.
abbrev pub HasCauses : List Op → Type 0
HasCauses ops =
    (op : Op) → IsIn op ops → (cause : OpId) → IsCause op.clock cause → HasId id_of ops cause

-- Operations whose ids ascend strictly.
abbrev pub AreOrdered : List Op → Type 0
AreOrdered ops = IsAscending (λ (a b : Op). id_order a.id b.id) ops

-- The operations of a right dump: they have a text and are sound, they ascend, and their causes are
-- among them.
pub record AreDumped (ops : List Op) : Type 0 where
  pub in_form : AreSound IsInForm ops
  pub sound : AreSound IsSound ops
  pub ascending : AreOrdered ops
  pub causes : HasCauses ops

-- The lines of a dump after its first: its op lines, and the lines of the state that the set of
-- them defines.
abbrev pub inside_text : List Op → List ℕ
inside_text ops = flat_map op_line ops ++ (state_text ops ++ (codes "end" ++ 10 ∷ []))

-- The dump of a replica with these operations.
abbrev pub dump_text : ℕ → List Op → List ℕ
dump_text replica ops = dump_line replica ++ 10 ∷ inside_text ops

-- A text is a right dump.
abbrev pub IsRightDump : List ℕ → Type 0
IsRightDump text =
    (replica : ℕ)
    × (ops : List Op)
    × IsReplica replica
    × AreDumped ops
    × (text ≡ dump_text replica ops)
