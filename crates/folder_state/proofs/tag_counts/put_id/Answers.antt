use Rattle.std.proofs.Common.{◌∙◌, Some, cond, ap, sym}
use Rattle.std.specs.Map.{lookup}
use Rattle.std.specs.Option.{unwrap_or}
use Rattle.crdt_ops.specs.SortedSets.{same_id}
use Rattle.folder_state.proofs.Counting.{cond_counted}
use Rattle.folder_state.proofs.Lenses.{on_ok, same_turned}
use Rattle.folder_state.proofs.tag_counts.put_id.Goals as goal

pub returns : goal.returns
returns c = λ i.
    let post = on_ok c.insert.result (sym c.is_err.ensures.value ∙ c.if-is_err.false) c.insert.ensures.updates in
    let old = lookup (same_id i) c.args.counts.now.entries in
    ap (λ o. unwrap_or o 0) (post.0 i ∙ ap (λ b. cond b (Some c.args.count) old) (same_turned c.args.id.now i))
    ∙ cond_counted (same_id i c.args.id.now) c.args.count old
