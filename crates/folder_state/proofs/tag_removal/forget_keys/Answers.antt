use Rattle.std.proofs.Common.{arith, false, cond, not, ◌&&◌, ap, sym, ◌∙◌, take}
use Rattle.std.specs.List.{list_any}
use Rattle.crdt_ops.specs.SortedSets.{same_id}
use Rattle.folder_state.proofs.Lenses.{any_take_next, key_removed, same_turned}
use Rattle.folder_state.proofs.tag_removal.forget_keys.Goals as goal

pub loop-id-preserved : goal.loop-id-preserved
loop-id-preserved c =
    let at = c.loop-id.id-index in
    let ids = c.args.ids.now in
    let id = c.id-item.result in
    record {
      keys = λ i.
          c.swap_remove.ensures.updates.0 i
          ∙ ap (cond (same_id id i) false) (c.loop-id.invariant.keys i)
          ∙ key_removed (list_any (same_id i) (take at ids)) (list_any (same_id i) c.args.keys.now.keys) (same_id i id) (same_id id i) (same_turned id i)
          ∙ ap (λ b. not b && list_any (same_id i) c.args.keys.now.keys) (sym (any_take_next (same_id i) ids at id c.loop-id-test.true c.id-item.is));
      room = let a = c.loop-id.invariant.room in let b = c.swap_remove.ensures.room.0 in omega (arith, a, b);
    }
