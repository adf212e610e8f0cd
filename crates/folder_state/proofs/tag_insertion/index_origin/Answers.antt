use Rattle.std.proofs.Common.{Some, cond, ap, sym, ◌∙◌}
use Rattle.std.specs.Map.{lookup}
use Rattle.crdt_ops.specs.SortedSets.{same_id}
use Rattle.folder_state.proofs.Lenses.{on_ok, same_turned}
use Rattle.folder_state.proofs.tag_insertion.index_origin.Goals as goal

pub returns-clause-updated : goal.returns-clause-updated
returns-clause-updated c = λ i.
    let post = on_ok c.insert.result (sym c.is_err.ensures.value ∙ c.if-is_err.false) c.insert.ensures.updates in
    post.0 i ∙ ap (λ b. cond b (Some c.args.origin.now) (lookup (same_id i) c.args.origins.now.entries)) (same_turned c.args.id.now i)
