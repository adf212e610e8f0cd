use Rattle.uid_projection.proofs.charts.Charts.uidvalidity.Goals as goal

pub returns : goal.returns
returns c = λ list f. c.uidvalidity_by.ensures list c.args.self.now.next_k c.args.self.now.charts.entries f.table c.chart_of.ensures
