-- The room that a replica has for further operations, so that applying them doesn't allocate.

use Rattle.std.specs.Prelude.{List}
use Rattle.causal_inbox.specs.InboxState.{IsReadied, InboxRoom}
use Rattle.crdt_ops.specs.declared.op.Op.{Op}
use Rattle.folder_state.specs.Tables.{IsPrepared as AreFoldersPrepared}
use Rattle.folder_state.specs.declared.folders.Folders.{Folders}
use Rattle.merge_laws.specs.declared.pair.FirstFollower.{FirstFollower}
use Rattle.merge_laws.specs.declared.pair.Pair.{Pair}
use Rattle.subs_state.specs.Table.{IsPrepared as AreSubsPrepared}
use Rattle.subs_state.specs.declared.subs.Subs.{Subs}
use Rattle.uid_projection.specs.Following.{IsReadyFor}
use Rattle.uid_projection.specs.declared.charts.Charts.{Charts}
use Rattle.imap_node.specs.Operations.{clock_of, id_of}

-- The room that was made in a replica: in its folders and subscriptions, and in the charts of its
-- folders.
abbrev pub Room : Type 0
Room = InboxRoom (Pair Folders Subs) (FirstFollower Charts)

-- Folders and subscriptions can apply the operations without further memory.
abbrev pub ArePrepared : Pair Folders Subs → List Op → Type 0
ArePrepared value ops = AreFoldersPrepared value.first ops × AreSubsPrepared value.second ops

-- The charts can note the operations `ops` after `list` without further memory.
abbrev pub AreNoted : FirstFollower Charts → List Op → List Op → Type 0
AreNoted charts list ops = IsReadyFor charts.follower list ops

-- The replica can apply these operations after those applied without further memory.
abbrev pub HasRoomFor : List Op → Room → List Op → Type 0
HasRoomFor applied room ops = IsReadied ArePrepared AreNoted id_of clock_of applied room ops
