use Rattle.std.proofs.Common.{◌≡◌, ◌∙◌, sym, rules}
use Rattle.imap_types.specs.Names.{inbox}
use Rattle.uid_projection.proofs.NextOpLemmas.{first_table}
use Rattle.uid_projection.proofs.AheadLemmas.{given_ok}
use Rattle.uid_projection.proofs.charts.first_charts.Goals as goal

pub returns : goal.returns
returns c = λ l.
    let key = c.in_ok-key.key in
    let e : key.items ≡ inbox = search rules in
    let post = given_ok c.insert.result (sym c.is_err.ensures.value ∙ c.if-is_err.false) c.insert.ensures.updates in
    let w = c.inbox_chart.ensures in
    first_table c.args.start.now key.items c.new-charts.result.entries c.insert.new.self.entries c.inbox_chart.result c.new-charts.ensures.empty post.3 post.1 e w.present w.k w.uidnext w.highest w.entries w.versions w.latest
