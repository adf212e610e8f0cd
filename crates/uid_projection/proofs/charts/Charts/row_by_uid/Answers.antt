use Rattle.std.proofs.Common.{[], ap, sym}
use Rattle.mailbox_rows.specs.RowViews.{row_of}
use Rattle.uid_projection.proofs.ChartQueryLemmas.{chart_without}
use Rattle.uid_projection.proofs.RowLemmas.{rows_by_entries}
use Rattle.uid_projection.proofs.charts.Charts.row_by_uid.Goals as goal

pub returns-in-Some : goal.returns-in-Some
returns-in-Some c = λ list f m.
    let x = c.in-Some.chart.now in
    c.row_with.ensures c.args.self.now.start list x.uidnext x.highest m (f.table.shows c.args.name.now x (sym c.in-Some.ensures)).shows

pub returns-in-None : goal.returns-in-None
returns-in-None c = λ list f m.
    let s = c.args.self.now in
    ap (row_of c.args.uid) (rows_by_entries s.start c.args.name.now list _ _ [] (chart_without s.start list s.next_k s.charts.entries c.args.name.now f.table (sym c.in-None.ensures)))
