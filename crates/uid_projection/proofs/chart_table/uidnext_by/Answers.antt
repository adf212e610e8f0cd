use Rattle.std.proofs.Common.{◌∙◌, ap, sym, option_copied}
use Rattle.uid_projection.proofs.ChartQueryLemmas.{chart_without}
use Rattle.uid_projection.proofs.chart_table.uidnext_by.Goals as goal

pub returns-in-Some : goal.returns-in-Some
returns-in-Some c = λ list k charts t at. (t.shows c.args.folder.now c.in-Some.chart.now (sym at ∙ ap option_copied c.in-Some.is)).shows.is_uidnext

pub returns-in-None : goal.returns-in-None
returns-in-None c = λ list k charts t at.
    c.first_of.ensures ∙ (chart_without c.args.start.now list k charts c.args.folder.now t (sym at ∙ ap option_copied c.in-None.is)).is_uidnext
