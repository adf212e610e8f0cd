use Rattle.std.proofs.Common.{◌∙◌, ap, sym, option_copied}
use Rattle.uid_projection.proofs.ChartQueryLemmas.{chart_without, if_ok}
use Rattle.uid_projection.proofs.Tables.{is_chart_of_equal}
use Rattle.uid_projection.proofs.chart_ahead.ahead_by.Goals as goal

pub returns-in_ok-overlay-in-Some-clause-shows : goal.returns-in_ok-overlay-in-Some-clause-shows
returns-in_ok-overlay-in-Some-clause-shows c = λ list k t at none.
    let x = c.in-Some.chart.now in
    is_chart_of_equal c.args.charts.now.start c.args.folder.now list x.uidnext x.uidnext x.highest x.highest x.entries.entries _ (λ i. x.uidnext) (λ i. x.highest) c.in_ok-overlay-in-Some.ensures.entries (t.shows c.args.folder.now x (sym at ∙ ap option_copied c.in-Some.is)).shows

pub returns-in-None-clause-shows : goal.returns-in-None-clause-shows
returns-in-None-clause-shows c = λ list k t at none.
    if_ok c.absent_chart_ahead.result (λ d w. is_chart_of_equal c.args.charts.now.start c.args.folder.now list _ _ _ _ _ _ (w.0 ∙ c.first_of.ensures) w.1 (w.2 ∙ none)
    (chart_without c.args.charts.now.start list k c.args.charts.now.charts.entries c.args.folder.now t (sym at ∙ ap option_copied c.in-None.is))) c.absent_chart_ahead.ensures.shows
