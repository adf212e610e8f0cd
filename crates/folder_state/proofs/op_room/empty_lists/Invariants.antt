use Rattle.std.proofs.Common.{◌++◌, List, drop}
use Rattle.std.specs.Global.{Vec}
use Rattle.imap_types.specs.declared.version.Version.{Version}
use Rattle.folder_state.specs.OpRoom.{HaveLists}
use Rattle.folder_state.proofs.op_room.empty_lists.Given as goal

abbrev pub invariant-loop-op : goal.invariant-loop-op
invariant-loop-op l = (more : List (Vec Version)) → HaveLists (drop l.op-index l.ops) more → HaveLists l.ops (l.lists.items ++ more)
