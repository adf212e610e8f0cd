use Rattle.std.proofs.Common.{◌≤◌, arith, None, cond, ap, sym, subst, ◌∙◌}
use Rattle.std.specs.Map.{lookup}
use Rattle.indexmap.specs.IndexMap.{spare}
use Rattle.indexmap.specs.IndexSet.{spare as spare_keys}
use Rattle.crdt_ops.specs.SortedSets.{same_id}
use Rattle.folder_state.specs.FolderTables.{FolderTables, tag_data_at}
use Rattle.folder_state.specs.OpRoom.{HasVersionRoom}
use Rattle.folder_state.proofs.FolderTablesLemmas.{bodies_taken, data_cond, filed_taken}
use Rattle.folder_state.proofs.RoomLeftLemmas.{taken_room}
use Rattle.folder_state.proofs.Lenses.{same_turned}
use Rattle.folder_state.proofs.folder.Folder.remove_message.Goals as goal

pub invariant_of-self : goal.invariant_of-self
invariant_of-self c =
    let id = c.args.id.now in
    let before = c.self.inside.origins.entries in
    filed_taken c.in-Some.origin id c.self.inside.messages.entries c.take_out.new.messages.entries c.take_out.ensures.taken before c.swap_remove.new.self.entries c.self.invariant
    (sym c.swap_remove.ensures.value ∙ c.in-Some.is)
    (λ i. c.swap_remove.ensures.updates.0 i ∙ ap (λ b. cond b None (lookup (same_id i) before)) (same_turned id i))

pub returns-in-Some-clause-tag_data : goal.returns-in-Some-clause-tag_data
returns-in-Some-clause-tag_data c = λ i.
    let id = c.args.id.now in
    let before = c.self.inside.origins.entries in
    bodies_taken c.in-Some.origin id c.self.inside.messages.entries c.take_out.new.messages.entries c.take_out.ensures.taken before c.swap_remove.new.self.entries c.self.invariant
    (sym c.swap_remove.ensures.value ∙ c.in-Some.is)
    (λ i. c.swap_remove.ensures.updates.0 i ∙ ap (λ b. cond b None (lookup (same_id i) before)) (same_turned id i)) i
    ∙ (λ j. cond (same_id i id) None (tag_data_at (c.self.view_is j).messages i (lookup (same_id i) (c.self.view_is j).origins)))

pub returns-in-Some-clause-removed : goal.returns-in-Some-clause-removed
returns-in-Some-clause-removed c = c.swap_remove.ensures.updates.1

pub returns-in-Some-clause-room : goal.returns-in-Some-clause-room
returns-in-Some-clause-room c = record {
  tags = subst (λ (k : FolderTables). k.spare_tags ≤ spare_keys c.self.inside.tags) c.self.view_is (omega arith);
  messages = subst (λ (k : FolderTables). k.spare_messages ≤ spare c.take_out.new.messages) c.self.view_is c.take_out.ensures.room;
  origins = subst (λ (k : FolderTables). k.spare_origins ≤ spare c.swap_remove.new.self) c.self.view_is c.swap_remove.ensures.room.0;
  versions = λ o n h. taken_room c.in-Some.origin c.args.id.now c.self.inside.messages.entries c.take_out.new.messages.entries c.take_out.ensures.taken o n (subst (λ (k : FolderTables). HasVersionRoom k.messages o n) (sym c.self.view_is) h);
}

pub returns-in-None-clause-tag_data : goal.returns-in-None-clause-tag_data
returns-in-None-clause-tag_data c = λ i.
    let id = c.args.id.now in
    let messages = c.self.inside.messages.entries in
    let before = c.self.inside.origins.entries in
    ap (tag_data_at messages i) (c.swap_remove.ensures.updates.0 i ∙ ap (λ b. cond b None (lookup (same_id i) before)) (same_turned id i))
    ∙ data_cond messages i (same_id i id) (lookup (same_id i) before)
    ∙ (λ j. cond (same_id i id) None (tag_data_at (c.self.view_is j).messages i (lookup (same_id i) (c.self.view_is j).origins)))

pub returns-in-None-clause-removed : goal.returns-in-None-clause-removed
returns-in-None-clause-removed c = c.swap_remove.ensures.updates.1

pub returns-in-None-clause-room : goal.returns-in-None-clause-room
returns-in-None-clause-room c = record {
  tags = subst (λ (k : FolderTables). k.spare_tags ≤ spare_keys c.self.inside.tags) c.self.view_is (omega arith);
  messages = subst (λ (k : FolderTables). k.spare_messages ≤ spare c.self.inside.messages) c.self.view_is (omega arith);
  origins = subst (λ (k : FolderTables). k.spare_origins ≤ spare c.swap_remove.new.self) c.self.view_is c.swap_remove.ensures.room.0;
  versions = λ o n h. subst (λ (k : FolderTables). HasVersionRoom k.messages o n) (sym c.self.view_is) h;
}
