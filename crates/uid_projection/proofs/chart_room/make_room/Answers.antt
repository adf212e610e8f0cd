use Rattle.std.proofs.Common.{◌≡◌, Some, ap, sym, subst, rules, arith}
use Rattle.uid_projection.specs.ChartTable.{HasRooms, IsTable, chart_at}
use Rattle.uid_projection.proofs.AheadLemmas.{on_ok}
use Rattle.uid_projection.proofs.Tables.{rooms_here, rooms_step, same_roomy, same_up, table_unchanged}
use Rattle.uid_projection.proofs.chart_room.make_room.Goals as goal

pub returns-in-Some-clause-table : goal.returns-in-Some-clause-table
returns-in-Some-clause-table c = λ list k t.
    let start = c.args.start.now in
    let n = c.as_bytes.result.now in
    let now = c.make_room_in.new.chart in
    let post = (c.get_mut.follows.holds now).3 (search rules) in
    let was : chart_at n c.args.charts.now.entries ≡ Some c.in-Some.chart.now = search rules in
    table_unchanged n c.args.charts.now.entries (c.get_mut.follows.lender now).entries now post.3 post.1 start list k t (same_up start n list c.in-Some.chart.now now c.make_room_in.ensures.same (t.shows n c.in-Some.chart.now was))

pub returns-in-Some-clause-rooms : goal.returns-in-Some-clause-rooms
returns-in-Some-clause-rooms c = λ g m k f r.
    let n = c.as_bytes.result.now in
    let now = c.make_room_in.new.chart in
    let post = (c.get_mut.follows.holds now).3 (search rules) in
    rooms_step n c.args.charts.now.entries (c.get_mut.follows.lender now).entries now post.3 post.1 c.in-Some.chart.now (search rules) g m m k k (omega arith) (omega arith) (same_roomy g m k c.in-Some.chart.now now c.make_room_in.ensures.same) f r

pub returns-in-Some-clause-ok : goal.returns-in-Some-clause-ok
returns-in-Some-clause-ok c = on_ok c.make_room_in.result (λ h.
    let n = c.as_bytes.result.now in
    let now = c.make_room_in.new.chart in
    let post = (c.get_mut.follows.holds now).3 (search rules) in
    let e : n ≡ c.args.folder.now = search rules in
    subst (λ m. HasRooms c.args.origin.now c.args.more c.args.modseqs m (c.get_mut.follows.lender now).entries) e
    (rooms_here n c.args.charts.now.entries (c.get_mut.follows.lender now).entries now post.3 post.1 c.args.origin.now c.args.more c.args.modseqs h)) c.make_room_in.ensures.ok

pub returns-in-None-clause-table : goal.returns-in-None-clause-table
returns-in-None-clause-table c = λ list k t.
    c.put_chart.ensures.table list k (subst (IsTable c.args.start.now list k) (sym (ap (λ m. m.entries) c.get_mut.follows.holds-at-none)) t)

pub returns-in-None-clause-rooms : goal.returns-in-None-clause-rooms
returns-in-None-clause-rooms c = λ g m k f r.
    c.put_chart.ensures.rooms g m k f (subst (HasRooms g m k f) (sym (ap (λ x. x.entries) c.get_mut.follows.holds-at-none)) r)
