use Rattle.std.proofs.Common.{◌≡◌, ◌∙◌, ◌++◌, ap, sym, subst}
use Rattle.folder_state.specs.AfterOps.{contents_after}
use Rattle.folder_state.specs.Tables.{contents_of}
use Rattle.uid_projection.specs.FolderAhead.{folder_of}
use Rattle.uid_projection.specs.NextOps.{IsNextAhead}
use Rattle.uid_projection.specs.Chart.{IsChart}
use Rattle.uid_projection.specs.Listing.{listing}
use Rattle.uid_projection.proofs.ChartQueryLemmas.{if_ok}
use Rattle.uid_projection.proofs.AheadLemmas.{made_after}
use Rattle.uid_projection.proofs.charts.Charts.rows_after.Goals as goal

pub returns : goal.returns
returns c = λ list f m a not_exhausted.
    let s = c.args.self.now in
    let n = c.args.name.now in
    let ops = c.args.ops.now in
    let value = contents_of c.args.value.now in
    let first = c.in_ok-ahead.ensures in
    let b = c.in_ok-advance_over.ensures in
    let advanced = c.advance_over.new.ahead in
    let y = c.advance_over.new.chart in
    let own : folder_of advanced ≡ n = c.advance_over.ensures.folder ∙ first.folder in
    let w : IsNextAhead s.start n s.nothing.entries value list ops c.in_ok-ahead.ahead = record {
      own = first.folder;
      none = f.nothing;
      applied = a;
      made = m;
      is_ahead = first.ahead;
    } in
    let chart = b.shows list value w (c.in_ok-chart.ensures.shows list s.next_k f.table f.nothing) in
    let shown = subst (λ m. IsChart s.start m (list ++ ops) y.uidnext y.highest y.entries.entries) (sym own) chart in
    if_ok c.folder_and_chart_ahead.result (λ rows e. e ∙ ap (λ m. listing s.start m (list ++ ops)) own)
    (c.folder_and_chart_ahead.ensures s.start (list ++ ops) (contents_after value ops) (made_after value list ops m a) (b.ahead value first.ahead) shown)
