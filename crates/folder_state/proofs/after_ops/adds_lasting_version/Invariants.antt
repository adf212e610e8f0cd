use Rattle.std.proofs.Common.{◌≡◌, false, take}
use Rattle.std.specs.List.{list_any}
use Rattle.std.specs.Option.{option_copied}
use Rattle.folder_state.specs.AfterOps.{op_adds_lasting_version}
use Rattle.folder_state.proofs.after_ops.adds_lasting_version.Given as goal

abbrev pub invariant-loop-op : goal.invariant-loop-op
invariant-loop-op l = list_any (op_adds_lasting_version (option_copied l.table) l.ops l.folder l.origin) (take l.op-index l.ops) ≡ false
