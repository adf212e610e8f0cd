-- A node may be sent to another thread and shared among threads. A balanced tree refers to itself,
-- and the checker can't find these facts for a type that contains one. They are built up here, from
-- the held operations to the node, so that no crate above has to search for them through all parts.
use denote.RattleType.{RattleType}
use denote.Param.Send.{IsSend, IsSync, sendable, view_send, view_sync, recorded_send, recorded_sync, struct_send, struct_sync}
use denote.Struct.Declared.{shape}
use Rattle.std.proofs.Crossing.{crosses, Vec-send, Vec-sync}
use Rattle.causal_inbox.below.tree_list.proofs.tree.Tree.TheLaws.TheKnot as knot
use Rattle.merge_laws.specs.declared.caused.Caused as caused
use Rattle.merge_laws.specs.declared.follower.Follower as follower
use Rattle.merge_laws.specs.declared.replicated.Replicated as replicated
use Rattle.merge_laws.proofs.pair.FirstFollower.TheSendSync as first
use Rattle.merge_laws.proofs.pair.Pair.TheSendSync as pair
use Rattle.crdt_ops.proofs.op.SoundOp.TheSendSync as op
use Rattle.folder_state.proofs.folders.Folders.TheSendSync as folders
use Rattle.subs_state.proofs.subs.Subs.TheSendSync as subs
use Rattle.uid_projection.proofs.charts.Charts.TheSendSync as charts
use Rattle.causal_inbox.proofs.op_cell.OpCell.TheSendSync as cell
use Rattle.causal_inbox.proofs.cause_index.CauseEntry.TheSendSync as filed
use Rattle.causal_inbox.proofs.history.History.TheSendSync as history
use Rattle.causal_inbox.specs.contracts.held_store.HeldStore as held
use Rattle.causal_inbox.specs.contracts.inbox.Inbox as inbox
use Rattle.causal_inbox.specs.contracts.inbox.Inbox.TheInside as received
use Rattle.imap_node.proofs.feeds.Feeds.TheSendSync as feeds
use Rattle.imap_node.proofs.sessions.Sessions.TheSendSync as sessions
use Rattle.imap_node.specs.contracts.replica.ReplicaState as replica
use Rattle.imap_node.specs.contracts.replica.ReplicaState.TheInside as parts
use Rattle.imap_node.specs.contracts.node.Node as node
use Rattle.imap_node.specs.contracts.node.Node.TheInside as whole

held_send : (O : RattleType) (c : caused.Ghosts O.Denot) → IsSend O → IsSend (held.the_row O c)
held_send O c o = search (cell.the_send, filed.the_send, knot.crosses, crosses, sendable) depth 60 fits 20000

held_sync : (O : RattleType) (c : caused.Ghosts O.Denot) → IsSync O → IsSync (held.the_row O c)
held_sync O c o = search (cell.the_sync, filed.the_sync, knot.crosses, crosses, sendable) depth 60 fits 20000

module _ (R F O S : RattleType) (r : replicated.Ghosts R.Denot O.Denot) (c : caused.Ghosts O.Denot) (f : follower.Ghosts F.Denot R.Denot S.Denot O.Denot) where
  inbox_send : IsSend R → IsSend F → IsSend O → IsSend (inbox.the_row R F O S r c f)
  inbox_send value follows op = view_send (received.the_row R F O S r c f) _ _ _ _
      (recorded_send (received.the_field R F O S r c f).row _ _ (received.the_type R F O S r c f).to_one
      (struct_send (shape (received.the_type R F O S r c f)) (history.the_send R F O S r c f value follows op, (held_send O c op, (Vec-send O op, tt)))))

  inbox_sync : IsSync R → IsSync F → IsSync O → IsSync (inbox.the_row R F O S r c f)
  inbox_sync value follows op = view_sync (received.the_row R F O S r c f) _ _ _ _
      (recorded_sync (received.the_field R F O S r c f).row _ _ (received.the_type R F O S r c f).to_one
      (struct_sync (shape (received.the_type R F O S r c f)) (history.the_sync R F O S r c f value follows op, (held_sync O c op, (Vec-sync O op, tt)))))

pub replica_send : IsSend replica.the_row
replica_send = view_send parts.the_row _ _ _ _
    (recorded_send (parts.the_field).row _ _ (parts.the_type).to_one
    (struct_send (shape parts.the_type) (search (inbox_send, pair.the_send, folders.the_send, subs.the_send, first.the_send, charts.the_send, op.the_send) depth 20, tt)))

pub replica_sync : IsSync replica.the_row
replica_sync = view_sync parts.the_row _ _ _ _
    (recorded_sync (parts.the_field).row _ _ (parts.the_type).to_one
    (struct_sync (shape parts.the_type) (search (inbox_sync, pair.the_sync, folders.the_sync, subs.the_sync, first.the_sync, charts.the_sync, op.the_sync) depth 20, tt)))

pub node_send : IsSend node.the_row
node_send = view_send whole.the_row _ _ _ _
    (recorded_send (whole.the_field).row _ _ (whole.the_type).to_one
    (struct_send (shape whole.the_type) (replica_send, (sessions.the_send, (feeds.the_send, tt)))))

pub node_sync : IsSync node.the_row
node_sync = view_sync whole.the_row _ _ _ _
    (recorded_sync (whole.the_field).row _ _ (whole.the_type).to_one
    (struct_sync (shape whole.the_type) (replica_sync, (sessions.the_sync, (feeds.the_sync, tt)))))
