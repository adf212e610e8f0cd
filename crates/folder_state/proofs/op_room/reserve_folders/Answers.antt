use Rattle.std.proofs.Common.{ℕ, List, inl, inr, sym, subst}
use Rattle.std.proofs.lemmas.List.{take_all}
use Rattle.tags_clocks.specs.declared.id.OpId.{OpId}
use Rattle.merge_laws.specs.Orders.{IsIn}
use Rattle.crdt_ops.specs.declared.op.Op.{Op}
use Rattle.folder_state.specs.FolderTables.{find_folder}
use Rattle.folder_state.specs.OpRoom.{HasRoomAt, HasRoomFor, count_at, count_of_name, origin_of_op, added_tag_count, target, added_version_count}
use Rattle.folder_state.proofs.MoreRoomLemmas.{in_take_next, roomier_trans, roomier_in, room_preserved}
use Rattle.folder_state.proofs.op_room.reserve_folders.Goals as goal

pub loop-op-init : goal.loop-op-init
loop-op-init c = record { roomier = λ f. roomier_in (find_folder f c.args.by_name.now.entries); rooms = λ o h. absurd h }

pub loop-op-preserved : goal.loop-op-preserved
loop-op-preserved c =
    let ops = c.args.ops.now in
    let op = c.op-item.result in
    let first = c.args.by_name.now.entries in
    let old = c.loop-op.by_name.entries in
    let new = c.reserve_for.new.by_name.entries in
    let more = (c.in_ok-reserve_for.ensures {u = tt}).roomier in
    let made = (c.in_ok-reserve_for.ensures {u = tt}).ok in
    let tag_counts = c.args.tag_counts.now in
    let own = subst (λ (o : Op). HasRoomAt (λ n. count_of_name n tag_counts.tags) (λ i. count_at i tag_counts.versions) (origin_of_op o.id o.kind) (target o.kind) (λ n. find_folder n new)) c.op.ensures.op made in
    let here : HasRoomFor ops op (λ n. find_folder n new) =
    subst (λ (w : (List ℕ → ℕ) × (OpId → ℕ)). HasRoomAt w.0 w.1 (origin_of_op op.id op.kind) (target op.kind) (λ n. find_folder n new)) (λ k. (λ n. c.requires.tags n k, λ i. c.requires.versions i k)) own in
    record {
      roomier = λ f. roomier_trans (find_folder f first) (find_folder f old) (find_folder f new) (c.loop-op.invariant.roomier f) (more f);
      rooms = λ o h. elim (in_take_next ops c.loop-op.op-index op o c.loop-op-test.true c.op-item.is h) [
        | inl t ↦ room_preserved old new more (added_tag_count ops) (added_version_count ops) (origin_of_op o.id o.kind) (target o.kind) (c.loop-op.invariant.rooms o t)
        | inr e ↦ subst (λ (p : Op). HasRoomFor ops p (λ n. find_folder n new)) e here
      ];
    }

pub returns-clause-rooms : goal.returns-clause-rooms
returns-clause-rooms c = λ o h. c.loop-op.invariant.rooms o (subst (IsIn o) (sym (take_all c.loop-op.op-index c.args.ops.now c.loop-op-test.false)) h)

pub returns-in_err-reserve_for-clause-roomier : goal.returns-in_err-reserve_for-clause-roomier
returns-in_err-reserve_for-clause-roomier c = λ f.
    roomier_trans (find_folder f c.args.by_name.now.entries) (find_folder f c.loop-op.by_name.entries) (find_folder f c.reserve_for.new.by_name.entries)
    (c.loop-op.invariant.roomier f) ((c.in_err-reserve_for.ensures {u = tt}).roomier f)
