use Rattle.std.proofs.Common.{◌≡◌, ◌+◌, arith, None, Some, cond, sym, subst, ◌∙◌}
use Rattle.std.specs.Map.{lookup}
use Rattle.crdt_ops.specs.SortedSets.{same_id}
use Rattle.folder_state.specs.FolderTables.{FolderTables, tag_data_at}
use Rattle.folder_state.specs.OpRoom.{HasPlaces, HasVersionRoom}
use Rattle.folder_state.proofs.FolderTablesLemmas.{bodies_put, message_tag_data, filed_put}
use Rattle.folder_state.proofs.folder.Folder.insert_version.Goals as goal

pub invariant_of-self : goal.invariant_of-self
invariant_of-self c =
    filed_put c.args.origin.now c.args.version c.self.inside.messages.entries c.put_in.new.messages.entries c.put_in.ensures.put c.self.inside.origins.entries c.index_origin.new.origins.entries c.self.invariant
    (subst (λ (k : FolderTables). lookup (same_id c.args.version.id) k.origins ≡ None) (sym c.self.view_is) c.requires.apart)
    c.index_origin.ensures.updated

pub returns-clause-tag_data : goal.returns-clause-tag_data
returns-clause-tag_data c = λ i.
    bodies_put c.args.origin.now c.args.version c.self.inside.messages.entries c.put_in.new.messages.entries c.put_in.ensures.put c.self.inside.origins.entries c.index_origin.new.origins.entries c.self.invariant
    (subst (λ (k : FolderTables). lookup (same_id c.args.version.id) k.origins ≡ None) (sym c.self.view_is) c.requires.apart)
    c.index_origin.ensures.updated i
    ∙ (λ j. cond (same_id i c.args.version.id) (Some (message_tag_data c.args.origin.now c.args.version.flags)) (tag_data_at (c.self.view_is j).messages i (lookup (same_id i) (c.self.view_is j).origins)))

pub returns-clause-room : goal.returns-clause-room
returns-clause-room c = λ o n h.
    let before = subst (λ (k : FolderTables). HasPlaces k o (n + 1)) (sym c.self.view_is) h in
    let updated = c.index_origin.ensures.room in
    let put = c.put_in.ensures.room in
    record {
      tags = let a = before.tags in omega (arith, a);
      messages = λ q e. let a = before.messages q e in omega (arith, a, put);
      origins = λ q e. let a = before.origins q e in omega (arith, a, updated);
    }

pub returns-clause-versions : goal.returns-clause-versions
returns-clause-versions c = λ o n h k. c.put_in.ensures.versions o n (subst (λ (f : FolderTables). HasVersionRoom f.messages o (cond (same_id o c.args.origin.now) 1 0 + n)) (sym c.self.view_is) h) k
