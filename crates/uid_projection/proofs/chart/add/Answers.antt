use Rattle.std.proofs.Common.{◌≡◌, ◌+◌, ◌-◌, ◌≤◌, ap, arith}
use Rattle.mailbox_rows.specs.EntryTables.{TableState}
use Rattle.uid_projection.proofs.chart.add.Goals as goal

pub returns-then-set_modseq-clause-modseq_room : goal.returns-then-set_modseq-clause-modseq_room
returns-then-set_modseq-clause-modseq_room c =
    let some = c.requires.modseq_room in
    let n = c.args.chart.now.entries.modseq_room - 1 in
    let all : n + 1 ≡ c.args.chart.now.entries.modseq_room = omega (arith, some) in
    let left : n ≤ c.set_modseq.new.entries.modseq_room = c.set_modseq.ensures.edits n (omega arith) (omega (arith, all)) in
    omega (arith, left, all)

pub returns-clause-modseq_room : goal.returns-clause-modseq_room
returns-clause-modseq_room c =
    let some = c.requires.modseq_room in
    let n = c.args.chart.now.entries.modseq_room - 1 in
    let all : n + 1 ≡ c.args.chart.now.entries.modseq_room = omega (arith, some) in
    let same = ap (λ (t : TableState). t.modseq_room) (c.set_modseq.ensures.same c.if-set_modseq.false) in
    let left : n ≤ c.begin_line.new.entries.modseq_room = c.begin_line.ensures.edits n (omega (arith, all, same)) in
    omega (arith, left, all)
