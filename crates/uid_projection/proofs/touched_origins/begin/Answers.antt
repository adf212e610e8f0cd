use Rattle.std.proofs.Common.{sym, ◌∙◌}
use Rattle.uid_projection.proofs.IdLemmas.{on_ok}
use Rattle.uid_projection.proofs.ListLemmas.{grows_new}
use Rattle.uid_projection.proofs.touched_origins.begin.Goals as goal

pub returns-clause-grows : goal.returns-clause-grows
returns-clause-grows c =
    let post = on_ok c.insert.result (sym c.is_err.ensures.value ∙ c.if-is_err.false) c.insert.ensures.updates in
    grows_new c.args.origin.now c.args.ids _ _ c.requires post.0
