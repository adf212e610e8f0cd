use Rattle.std.proofs.Common.{◌≡◌, ◌∙◌, None, sym, subst, rules}
use Rattle.uid_projection.specs.ChartTable.{HasRooms, IsTable, IsUpTo, chart_at}
use Rattle.uid_projection.proofs.AheadLemmas.{given_err, given_ok}
use Rattle.uid_projection.proofs.Tables.{absent_up, rooms_here, rooms_insert, same_up, table_unchanged}
use Rattle.uid_projection.proofs.chart_room.put_chart.Goals as goal

pub returns-then-is_err-clause-table : goal.returns-then-is_err-clause-table
returns-then-is_err-clause-table c = λ list k t.
    subst (IsTable c.args.start.now list k) (sym (given_err c.insert.result (sym c.is_err.ensures.value ∙ c.if-is_err.true) c.insert.ensures.err)) t

pub returns-clause-table : goal.returns-clause-table
returns-clause-table c = λ list k t.
    let start = c.args.start.now in
    let n = c.args.folder.now in
    let key = c.in_ok-key.key in
    let e : key.items ≡ n = search rules in
    let a = c.absent_chart-chart.result in
    let d = c.make_room_in.new.chart in
    let w = c.absent_chart-chart.ensures in
    let post = given_ok c.insert.result (sym c.is_err.ensures.value ∙ c.if-is_err.false) c.insert.ensures.updates in
    let up = same_up start n list a d c.make_room_in.ensures.same (absent_up start n list a (t.covers n c.requires) w.present (w.uidnext ∙ c.first_of.ensures) w.highest w.entries w.versions w.latest) in
    table_unchanged key.items c.args.charts.now.entries c.insert.new.self.entries d post.3 post.1 start list k t (subst (λ m. IsUpTo start m list d) (sym e) up)

pub returns-clause-rooms : goal.returns-clause-rooms
returns-clause-rooms c =
    let key = c.in_ok-key.key in
    let e : key.items ≡ c.args.folder.now = search rules in
    let post = given_ok c.insert.result (sym c.is_err.ensures.value ∙ c.if-is_err.false) c.insert.ensures.updates in
    rooms_insert key.items c.args.charts.now.entries c.insert.new.self.entries c.make_room_in.new.chart post.3 post.1 (subst (λ m. chart_at m c.args.charts.now.entries ≡ None) (sym e) c.requires)

pub returns-clause-ok : goal.returns-clause-ok
returns-clause-ok c =
    let key = c.in_ok-key.key in
    let e : key.items ≡ c.args.folder.now = search rules in
    let post = given_ok c.insert.result (sym c.is_err.ensures.value ∙ c.if-is_err.false) c.insert.ensures.updates in
    subst (λ m. HasRooms c.args.origin.now c.args.more c.args.modseqs m c.insert.new.self.entries) e
    (rooms_here key.items c.args.charts.now.entries c.insert.new.self.entries c.make_room_in.new.chart post.3 post.1 c.args.origin.now c.args.more c.args.modseqs c.in_ok-make_room_in.ensures.ok)
