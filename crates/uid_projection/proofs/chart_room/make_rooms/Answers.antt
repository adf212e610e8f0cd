use Rattle.std.proofs.Common.{◌≡◌, ℕ, true, length, subst, arith}
use Rattle.merge_laws.specs.Orders.{IsIn}
use Rattle.crdt_ops.specs.declared.op.Op.{Op}
use Rattle.crdt_ops.specs.Tags.{name_of}
use Rattle.uid_projection.specs.UidsAndModSeqs.{kind_names_folder}
use Rattle.uid_projection.specs.EntryMoves.{added_origin}
use Rattle.uid_projection.specs.ChartTable.{HasRooms}
use Rattle.uid_projection.proofs.ExhaustionLemmas.{all_take_next, all_of}
use Rattle.uid_projection.proofs.chart_room.make_rooms.Goals as goal

pub returns-in_err-room_for-clause-table : goal.returns-in_err-room_for-clause-table
returns-in_err-room_for-clause-table c = λ list k t. c.room_for.ensures.table list k (c.loop-op.invariant.table list k t)

pub loop-op-preserved : goal.loop-op-preserved
loop-op-preserved c =
    let h = c.loop-op.invariant in
    let n = length c.args.ops.now in
    let k = c.in_ok-modseqs.modseqs in
    let new = c.room_for.new.charts.entries in
    let P = λ (o : Op). kind_names_folder (name_of o.kind) o.kind ≡ true → HasRooms (added_origin o) n k (name_of o.kind) new in
    record {
      table = λ list k t. c.room_for.ensures.table list k (h.table list k t);
      done = all_take_next P c.args.ops.now c.loop-op.op-index c.op-item.result c.loop-op-test.true c.op-item.is
          (λ o i about. c.room_for.ensures.rooms (added_origin o) n k (name_of o.kind) (h.done o i about))
          (subst P c.op.ensures.op c.in_ok-room_for.ensures.ok);
    }

pub returns-clause-ok : goal.returns-clause-ok
returns-clause-ok c =
    let stop = c.loop-op-test.false in
    let n = length c.args.ops.now in
    let P = λ (k : ℕ) (o : Op). kind_names_folder (name_of o.kind) o.kind ≡ true → HasRooms (added_origin o) n k (name_of o.kind) c.loop-op.charts.entries in
    subst (λ k. (o : Op) → IsIn o c.args.ops.now → P k o) (c.in_ok-modseqs.ensures) (all_of (P c.in_ok-modseqs.modseqs) c.args.ops.now c.loop-op.op-index (omega (arith, stop)) c.loop-op.invariant.done)
