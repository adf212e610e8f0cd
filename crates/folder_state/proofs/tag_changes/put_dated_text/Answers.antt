use Rattle.std.proofs.Common.{◌≡◌, Bool, true, false, Option, Some, cond, refl, ap, sym, ◌∙◌}
use Rattle.std.specs.Map.{lookup}
use Rattle.std.specs.Option.{option_map}
use Rattle.crdt_ops.specs.SortedSets.{same_id}
use Rattle.folder_state.specs.MessageRefs.{stored_dated_text}
use Rattle.folder_state.proofs.Lenses.{on_ok, same_turned}
use Rattle.folder_state.proofs.tag_changes.put_dated_text.Goals as goal

mapped_cond : {X Y : Type 0} (g : X → Y) (b : Bool) (x : X) (o : Option X) → option_map g (cond b (Some x) o) ≡ cond b (Some (g x)) (option_map g o)
mapped_cond g true x o = refl
mapped_cond g false x o = refl

pub returns-clause-updated : goal.returns-clause-updated
returns-clause-updated c = λ i.
    let post = on_ok c.insert.result (sym c.is_err.ensures.value ∙ c.if-is_err.false) c.insert.ensures.updates in
    let old = lookup (same_id i) c.args.dated_texts.now.entries in
    ap (option_map stored_dated_text) (post.0 i ∙ ap (λ b. cond b (Some c.args.dated) old) (same_turned c.args.id.now i))
    ∙ mapped_cond stored_dated_text (same_id i c.args.id.now) c.args.dated old
