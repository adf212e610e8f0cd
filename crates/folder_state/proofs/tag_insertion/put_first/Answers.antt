use Rattle.std.proofs.Common.{ap, sym, ◌∙◌}
use Rattle.crdt_ops.specs.SortedSets.{insert_ordered}
use Rattle.folder_state.specs.FolderTables.{by_id, versions_or_none}
use Rattle.folder_state.proofs.RoomLeftLemmas.{first_fits, put_room}
use Rattle.folder_state.proofs.Lenses.{on_ok, same_turned}
use Rattle.folder_state.proofs.tag_insertion.put_first.Goals as goal

pub returns-clause-put : goal.returns-clause-put
returns-clause-put c =
    let post = on_ok c.insert.result (sym c.is_err.ensures.value ∙ c.if-is_err.false) c.insert.ensures.updates in
    record {
      here = ap versions_or_none post.1 ∙ c.put_to.ensures.items ∙ ap (insert_ordered by_id c.args.version) (c.requires.list.0 ∙ sym (ap versions_or_none c.requires.none));
      others = λ o f. post.2 o (same_turned c.args.origin.now o ∙ f);
    }

pub returns-clause-versions : goal.returns-clause-versions
returns-clause-versions c = λ o n h k.
    let post = on_ok c.insert.result (sym c.is_err.ensures.value ∙ c.if-is_err.false) c.insert.ensures.updates in
    let origin = c.args.origin.now in
    put_room o origin n c.args.messages.now.entries c.insert.new.self.entries c.put_to.new.versions (λ p f. post.2 p (same_turned origin p ∙ f)) post.1
    (λ t. first_fits n c.args.version c.args.list c.put_to.new.versions c.requires.list.0 c.put_to.ensures.items c.put_to.ensures.capacity (k t)) h
