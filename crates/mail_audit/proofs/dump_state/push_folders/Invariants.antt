use Rattle.std.proofs.Common.{◌≡◌, List, ◌++◌, take}
use Rattle.std.specs.List.{flat_map}
use Rattle.crdt_ops.specs.declared.op.Op.{Op}
use Rattle.folder_state.specs.Contents.{IsMadeBy}
use Rattle.folder_state.specs.Tables.{contents_of}
use Rattle.crdt_ops.specs.DumpLines.{folder_lines}
use Rattle.mail_audit.proofs.dump_state.push_folders.Given as goal

abbrev pub invariant-loop-name : goal.invariant-loop-name
invariant-loop-name l = (ops : List Op) → IsMadeBy (contents_of l.folders) ops → l.text.items ≡ l.fn.text.items ++ flat_map (folder_lines ops) (take l.name-index l.name-items)
