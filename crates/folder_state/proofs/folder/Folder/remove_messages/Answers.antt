use Rattle.std.proofs.Common.{refl, None, cond, take, ap, sym, ◌∙◌}
use Rattle.std.specs.List.{list_any}
use Rattle.crdt_ops.specs.SortedSets.{same_id}
use Rattle.folder_state.specs.FolderTables.{folder_contents}
use Rattle.folder_state.proofs.RoomLeftLemmas.{no_fuller_trans, no_fuller_same}
use Rattle.folder_state.proofs.Lenses.{any_take_next, tag_data_removed}
use Rattle.folder_state.proofs.folder.Folder.remove_messages.Goals as goal

pub loop-id-init : goal.loop-id-init
loop-id-init c = record { tag_data = λ i. refl; tags = refl; room = no_fuller_same c.args.self.now }

pub loop-id-preserved : goal.loop-id-preserved
loop-id-preserved c =
    let at = c.loop-id.id-index in
    let ids = c.args.ids.now in
    let id = c.id-item.result in
    let first = c.args.self.now in
    record {
      tag_data = λ i.
          c.remove_message.ensures.tag_data i
          ∙ ap (cond (same_id i id) None) (c.loop-id.invariant.tag_data i)
          ∙ tag_data_removed (list_any (same_id i) (take at ids)) (same_id i id) ((folder_contents first).tag_data i)
          ∙ ap (λ b. cond b None ((folder_contents first).tag_data i)) (sym (any_take_next (same_id i) ids at id c.loop-id-test.true c.id-item.is));
      tags = c.remove_message.ensures.tags ∙ c.loop-id.invariant.tags;
      room = no_fuller_trans first c.loop-id.self c.remove_message.new.self c.loop-id.invariant.room c.remove_message.ensures.room;
    }
