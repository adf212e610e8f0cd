use Rattle.std.proofs.Common.{◌≡◌, ◌∙◌, rules, Some, ap, sym}
use Rattle.std.specs.Option.{unwrap_or}
use Rattle.std.specs.Str.{bytes_eq}
use Rattle.folder_state.proofs.Counting.{cond_counted}
use Rattle.folder_state.proofs.Lenses.{folder_changed, named, on_ok}
use Rattle.folder_state.proofs.tag_counts.put_name.Goals as goal

pub returns : goal.returns
returns c = λ n.
    let key = c.in_ok-key.key in
    let e : key.items ≡ c.args.name.now = search rules in
    let post = on_ok c.insert.result (sym c.is_err.ensures.value ∙ c.if-is_err.false) c.insert.ensures.updates in
    let old = c.args.counts.now.entries in
    ap (λ o. unwrap_or o 0) (folder_changed c.args.name.now key.items e old c.insert.new.self.entries post.3 (Some c.args.count) post.1 n)
    ∙ cond_counted (bytes_eq n c.args.name.now) c.args.count (named n old)
