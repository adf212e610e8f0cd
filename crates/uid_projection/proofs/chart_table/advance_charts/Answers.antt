use Rattle.std.proofs.Common.{◌≡◌, ◌+◌, None, Some, subst, rules, arith}
use Rattle.crdt_ops.specs.Tags.{name_of}
use Rattle.folder_state.specs.Tables.{contents_of}
use Rattle.uid_projection.specs.EntryMoves.{added_origin}
use Rattle.uid_projection.specs.ChartTable.{HasRoomsIn, IsNextAt, chart_at, modseqs_by}
use Rattle.uid_projection.proofs.Tables.{rooms_step, table_step}
use Rattle.uid_projection.proofs.chart_table.advance_charts.Goals as goal

pub unreachable-requires : goal.unreachable-requires
unreachable-requires c =
    let n = name_of c.args.op.now.kind in
    let none : chart_at n c.args.charts.now.entries ≡ None = subst (λ m. chart_at m c.args.charts.now.entries ≡ None) c.name.ensures (search rules) in
    subst (HasRoomsIn (added_origin c.args.op.now) 1 (modseqs_by c.args.op.now)) none c.requires.rooms

pub step-requires : goal.step-requires
step-requires c =
    let (list, r) = c.requires.next in
    let n = name_of c.args.op.now.kind in
    let was : chart_at n c.args.charts.now.entries ≡ Some c.in-Some.chart.now = subst (λ m. chart_at m c.args.charts.now.entries ≡ Some c.in-Some.chart.now) c.name.ensures (search rules) in (
      list,
      record {
        next = r.next;
        about = c.requires.kind;
        up = r.table.shows n c.in-Some.chart.now was;
        roomy = subst (HasRoomsIn (added_origin c.args.op.now) 1 (modseqs_by c.args.op.now)) was c.requires.rooms;
      },
    )

pub returns-clause-next : goal.returns-clause-next
returns-clause-next c = λ list r.
    let now = c.step.new.chart in
    let n = name_of c.args.op.now.kind in
    let post = (c.get_mut.follows.holds now).3 (search rules) in
    let was : chart_at n c.args.charts.now.entries ≡ Some c.in-Some.chart.now = subst (λ m. chart_at m c.args.charts.now.entries ≡ Some c.in-Some.chart.now) c.name.ensures (search rules) in
    let at : IsNextAt c.args.start.now c.args.next_k.now (contents_of c.args.value.now) list c.args.op.now c.in-Some.chart.now = record {
      next = r.next;
      about = c.requires.kind;
      up = r.table.shows n c.in-Some.chart.now was;
      roomy = subst (HasRoomsIn (added_origin c.args.op.now) 1 (modseqs_by c.args.op.now)) was c.requires.rooms;
    } in
    table_step c.as_bytes.result.now c.args.charts.now.entries (c.get_mut.follows.lender now).entries now post.3 post.1 c.args.start.now list c.args.op.now c.args.next_k.now c.step.new.next_k r.next.applied (search rules) r.table (c.step.ensures.next list at) (c.step.ensures.up list at)

pub returns-clause-rooms : goal.returns-clause-rooms
returns-clause-rooms c = λ g n k folder r.
    let now = c.step.new.chart in
    let post = (c.get_mut.follows.holds now).3 (search rules) in
    rooms_step c.as_bytes.result.now c.args.charts.now.entries (c.get_mut.follows.lender now).entries now post.3 post.1 c.in-Some.chart.now (search rules) g (n + 1) n (k + modseqs_by c.args.op.now) k (omega arith) (omega arith) (c.step.ensures.roomy g n k) folder r
