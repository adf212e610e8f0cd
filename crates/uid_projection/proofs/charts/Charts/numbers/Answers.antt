use Rattle.uid_projection.proofs.charts.Charts.numbers.Goals as goal

pub returns-clause-uidvalidity : goal.returns-clause-uidvalidity
returns-clause-uidvalidity c = λ list f. c.uidvalidity_by.ensures list c.args.self.now.next_k c.args.self.now.charts.entries f.table c.chart_of-chart.ensures

pub returns-clause-uidnext : goal.returns-clause-uidnext
returns-clause-uidnext c = λ list f. c.uidnext_by.ensures list c.args.self.now.next_k c.args.self.now.charts.entries f.table c.chart_of-chart.ensures
