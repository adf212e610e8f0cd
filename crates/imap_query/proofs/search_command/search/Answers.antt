use Rattle.std.proofs.Common.{◌∙◌, ap}
use Rattle.std.proofs.lemmas.Result.{IfOk-weaker}
use Rattle.std.specs.List.{list_any}
use Rattle.imap_query.specs.Hits.{step_names_modseq}
use Rattle.imap_query.specs.Search.{results_of}
use Rattle.imap_query.proofs.HitLemmas.{modseq_asked}
use Rattle.imap_query.proofs.search_command.search.Goals as goal

pub returns : goal.returns
returns c =
    IfOk-weaker c.results.result _ _
    (λ results h key e.
    let asked = c.asks_modseq.ensures ∙ ap (list_any step_names_modseq) e ∙ modseq_asked key in
    let is_hits = c.deref.ensures.value ∙ c.in_ok-hits.ensures.hits key e in
    h ∙ (λ i. results_of c.args.options.now (asked i) (is_hits i)))
    c.results.ensures
