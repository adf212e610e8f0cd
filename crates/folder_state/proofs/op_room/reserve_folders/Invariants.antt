use Rattle.std.proofs.Common.{take}
use Rattle.merge_laws.specs.Orders.{IsIn}
use Rattle.crdt_ops.specs.declared.op.Op.{Op}
use Rattle.folder_state.specs.FolderTables.{find_folder}
use Rattle.folder_state.specs.OpRoom.{AreRoomier, HasRoomFor}
use Rattle.folder_state.proofs.op_room.reserve_folders.Given as goal

abbrev pub invariant-loop-op : goal.invariant-loop-op
invariant-loop-op l = record {
  roomier : AreRoomier l.fn.by_name.entries l.by_name.entries;
  rooms : (o : Op) → IsIn o (take l.op-index l.ops) → HasRoomFor l.ops o (λ name. find_folder name l.by_name.entries);
}
